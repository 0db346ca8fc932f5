-- Parts whose substitutions `then` takes.
use Rattle.std.specs.Prelude.{◌≤◌, ℕ, List, ◌∷◌, Option, Some, None}
use Rattle.std.specs.List.{All}
use Rattle.trees.specs.Trees.{greatest_shift}
use Rattle.trees.specs.Things.{Thing, ATree, ASubst, AContext, Meanings}
use Rattle.rows.specs.Views.{ShiftAtMost}
use Rattle.rules.specs.declared.instruction.Instruction.{Instruction}
use Rattle.rules.specs.declared.instruction.Instruction.TheVariants as make

-- the shifts of the substitutions among the parts are those that `then` takes

abbrev pub ShiftFits : Thing → Type 0
ShiftFits (ASubst d) = d.shift ≤ greatest_shift
ShiftFits (ATree t) = Unit {0}
ShiftFits (AContext G) = Unit {0}

abbrev pub ShiftsFit : Option (List Thing) → Type 0
ShiftsFit None = Unit {0}
ShiftsFit (Some parts) = All ShiftFits parts

-- what `then` takes off the stack
abbrev pub ThenFits : Meanings → Instruction → List ℕ → Type 0
ThenFits f make.Then (first ∷ second ∷ stack) =
    ShiftAtMost greatest_shift (f first) × ShiftAtMost greatest_shift (f second)
ThenFits f _ _ = Unit {0}
