-- The newest value of a number.
use Rattle.std.specs.Prelude.{◌==◌, ℕ, List, [], ◌∷◌, Option, Some, None, if◌then◌else◌}
use Rattle.std.specs.List.Sorted.{IsNonDecreasingBy}
use Rattle.numbered_scope.specs.declared.numbered.Numbered.{Numbered}

-- what is found later hides what was found before
abbrev pub later : {T : Type 0} → Option T → Option T → Option T
later before None = before
later before (Some v) = Some v

-- the last of the values of that number
abbrev pub newest : {T : Type 0} → List (Numbered T) → ℕ → Option T
newest [] n = None
newest (x ∷ xs) n = later (if x.number == n then Some x.value else None) (newest xs n)

-- no number is below one before it
abbrev pub Ascend : {T : Type 0} → List (Numbered T) → Type 0
Ascend = IsNonDecreasingBy (λ x. x.number)
