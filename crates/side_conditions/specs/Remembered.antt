-- What is remembered of rows from one question to the next.
use Rattle.std.specs.Prelude.{◌≡◌, Bool, List, [], Option, Some}
use Rattle.trees.specs.Judgements.{Context}
use Rattle.trees.specs.Things.{Meanings}
use Rattle.rows.specs.Views.{IsTree}
use Rattle.rows.specs.declared.views.TermId.{TermId}
use Rattle.side_conditions.specs.declared.reading.Reading.{Reading}
use Rattle.side_conditions.specs.declared.readings.Readings.{Readings}
use Rattle.side_conditions.specs.Levels.{indices}
use Rattle.side_conditions.specs.Readings.{Reads}
use Rattle.side_conditions.specs.Shapes.{tree_of}
use Rattle.side_conditions.specs.Shown.{remembered_at}

-- nothing but whole rows is remembered, and these are read right in every context with these
-- indices
pub record AreKept (Valued : Type 0) (f : Meanings) (names : List Bool) (r : Readings)
    : Type 0 where
  pub alone : r.others.entries ≡ []
  pub trees : (row : TermId) (found : Option Reading) → remembered_at r row ≡ Some found
      → IsTree (f row.0)
  pub right : (row : TermId) (found : Option Reading) → remembered_at r row ≡ Some found
      → (G : Context) → indices G ≡ names → Reads Valued G (tree_of (f row.0)) found
