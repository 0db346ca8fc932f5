-- What the rows of a file mean that is being made.
use Rattle.std.specs.Prelude.{◌≡◌, ◌<◌, ℕ, List, [], length, Option, Some, None, IsSome}
use Rattle.std.specs.Prelude.{slice_index_or}
use Rattle.std.specs.List.{All}
use Rattle.trees.specs.Judgements.{Judgement}
use Rattle.trees.specs.Things.{Thing, Meanings}
use Rattle.rows.specs.Tables.{built}
use Rattle.rules.specs.Claims.{rule_over, conclusion_of as concluded_by}
use Rattle.deriv_file.specs.declared.row.Row.{Row}
use Rattle.deriv_file.specs.declared.row.Row.TheVariants as row
use Rattle.derivation.specs.Meanings.{Meaning, Means, Concludes, Nothing, thing_at, conclusion_at}
use Rattle.derivation.specs.Meanings.{things_at}
use Rattle.derivation.specs.Right.{thing_made, RightRows}
use Rattle.book.specs.Contents.{Contents}
use Rattle.book.specs.Shown.{row_over}
use Rattle.book_writer.specs.Chains.{IsPlain}

abbrev pub means_some : Option Thing → Meaning
means_some (Some x) = Means x
means_some None = Nothing

abbrev pub concludes_some : Option Judgement → Meaning
concludes_some (Some J) = Concludes J
concludes_some None = Nothing

-- what a row means after rows with these meanings, where it is right
abbrev pub meaning_after : List Meaning → Row → Meaning
meaning_after all (row.Header version) = Nothing
meaning_after all (row.Root node) = Nothing
meaning_after all (row.Node rule parts premises) =
    concludes_some (concluded_by (rule_over rule (things_at all parts)))
meaning_after all r = means_some (thing_made (thing_at all) r)

abbrev pub meanings_in : List Row → List Meaning
meanings_in = built meaning_after

-- the tree, substitution or context of a row, and the conclusion of one

abbrev pub lines_mean : List Row → Meanings
lines_mean rows = thing_at (meanings_in rows)

abbrev pub lines_conclude : List Row → ℕ → Option Judgement
lines_conclude rows = conclusion_at (meanings_in rows)

-- the rows are right, begin with a header, and none of them is a root
pub record IsFile (rows : List Row) : Type 0 where
  pub right : RightRows [] rows (meanings_in rows)
  pub plain : All IsPlain rows
  pub some : 0 < length rows

-- what a row concluded it goes on to conclude
pub record ConclusionsKept (old new : ℕ → Option Judgement) : Type 0 where
  pub keeps : (k : ℕ) (J : Judgement) → old k ≡ Some J → new k ≡ Some J

-- the rows of the file at these places mean what the first rows of a book do
pub record ArePlaced (f : Meanings) (rows : List Row) (places : List ℕ) : Type 0 where
  pub each : (k : ℕ) (x : Thing) → k < length places → f k ≡ Some x
      → lines_mean rows (slice_index_or places k 0) ≡ Some x

-- the row comes next, and means something where the rows before it mean what f says, as those at
-- these places do
pub record MayAdd (f : Meanings) (b : Contents) (row : ℕ) (rows : List Row)
    (places : List ℕ) : Type 0 where
  pub placed : ArePlaced f rows places
  pub there : IsSome (row_over b row f)

-- and at these they conclude what its first nodes do
pub record AreConcluded (g : ℕ → Option Judgement) (rows : List Row)
    (places : List ℕ) : Type 0 where
  pub each : (k : ℕ) (J : Judgement) → k < length places → g k ≡ Some J
      → lines_conclude rows (slice_index_or places k 0) ≡ Some J
