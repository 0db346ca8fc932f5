-- What is kept of contexts that were asked about.
use Rattle.std.specs.Prelude.{◌≡◌, ◌<◌, ◌≤◌, ℕ}
use Rattle.std.specs.List.{All}
use Rattle.trees.specs.Things.{Meanings}
use Rattle.side_conditions.specs.declared.asked.Asked.{Asked}
use Rattle.side_conditions.specs.declared.deciding.SideConditions.{SideConditions}
use Rattle.side_conditions.specs.declared.reading.Detail.TheVariants as detail
use Rattle.side_conditions.specs.Held.{StandsFor}
use Rattle.side_conditions.specs.Readings.{IsValued}
use Rattle.side_conditions.specs.Remembered.{AreKept}

-- what is kept stands for the context of its row, and for the trees of the rows that were read
pub record IsAsked (f : Meanings) (a : Asked) : Type 0 where
  pub stands : StandsFor f a.faces.ctx a.faces
  pub kinds : AreKept (IsValued detail.Kind) f a.faces.names.items a.kinds
  pub values : AreKept (IsValued detail.Value) f a.faces.names.items a.values

-- it is of some of the first rows
pub record StaysBelow (mark : ℕ) (a : Asked) : Type 0 where
  pub ctx : a.faces.ctx.0 < mark
  pub kinds : a.kinds.mark ≤ mark
  pub values : a.values.mark ≤ mark

-- it is so still after a question, in which more of the first rows were read
pub record IsAskedNext (f : Meanings) (mark : ℕ) (old new : Asked) : Type 0 where
  pub asked : IsAsked f new
  pub ctx : new.faces.ctx ≡ old.faces.ctx
  pub stays : StaysBelow mark old → StaysBelow mark new

pub record KeepsBelow (mark : ℕ) (f : Meanings) (s : SideConditions) : Type 0 where
  pub each : All (λ a. IsAsked f a × StaysBelow mark a) s.asked.items
