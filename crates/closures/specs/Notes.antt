-- What contracts see of notes.
use Rattle.std.specs.Prelude.{◌≡◌, ◌⊎◌, ℕ, Option, Some}
use Rattle.indexmap.specs.IndexMap.{get}
use Rattle.closures.specs.declared.notes.Source.{Source}
use Rattle.closures.specs.declared.notes.Notes.{Notes}
use Rattle.closures.specs.contracts.notes.SourcePartialEq.TheImpl.{eq-value}

-- the variable that was noted
abbrev pub noted : Notes → Source → Option ℕ
noted notes s = get eq-value.it notes.entries s

-- at most one more was noted
abbrev pub IsNoted : Source → ℕ → Notes → Notes → Type 0
IsNoted at index old new =
    (s : Source) (j : ℕ) → noted new s ≡ Some j
    → (noted old s ≡ Some j) ⊎ ((s ≡ at) × (j ≡ index))
