-- What contracts see of readings.
use Rattle.std.specs.Prelude.{◌≡◌, List, [], Option, Some, option_and_then}
use Rattle.std.specs.Option.{option_or}
use Rattle.indexmap.specs.IndexMap.{get}
use Rattle.rows.specs.declared.views.TermId.{TermId}
use Rattle.side_conditions.specs.declared.subtree.Subtree.{Subtree}
use Rattle.side_conditions.specs.declared.reading.Reading.{Reading}
use Rattle.side_conditions.specs.declared.readings.Readings.{Readings}
use Rattle.interval.specs.declared.literals.Literal.{Literal}
use Rattle.faces.specs.declared.equations.Equation.{Equation}
use Rattle.side_conditions.specs.Readings.{face_in, form_in}
use Rattle.side_conditions.specs.Whole.{row_at, whole_row}
use Rattle.side_conditions.specs.contracts.subtree.SubtreePartialEq.TheImpl.{eq-value}

-- what is remembered of a row
abbrev pub remembered_at : Readings → TermId → Option (Option Reading)
remembered_at readings row = row_at readings.rows row

-- what a subtree was read as, if it was
abbrev pub reading_at : Readings → Subtree → Option (Option Reading)
reading_at readings s =
    option_or (option_and_then (remembered_at readings) (whole_row s))
    (get eq-value.it readings.others s)

-- the form that a subtree was read as, where it is a formula
abbrev pub IsFormAt : Readings → Subtree → Option (List (List Literal)) → Type 0
IsFormAt readings s form =
    (found : Option Reading) → reading_at readings s ≡ Some found
    → form ≡ option_and_then form_in found

-- the face that a subtree was read as, where it is one
abbrev pub IsFaceAt : Readings → Subtree → Option (List (List Equation)) → Type 0
IsFaceAt readings s face =
    (found : Option Reading) → reading_at readings s ≡ Some found
    → face ≡ option_and_then face_in found

-- nothing is left but what is remembered of rows, which may be less than before
pub record IsForgotten (old new : Readings) : Type 0 where
  pub alone : new.others.entries ≡ []
  pub fewer : (row : TermId) (found : Option Reading) → remembered_at new row ≡ Some found
      → remembered_at old row ≡ Some found
