-- What is appended for a row.
use Rattle.std.specs.Prelude.{◌≡◌, ℕ, List, ◌∷◌, length, take, decimal}
use Rattle.std.specs.List.{flat_map}

-- numbers with a space before each
abbrev pub spaced : List ℕ → List ℕ
spaced numbers = flat_map (λ n. 32 ∷ decimal n) numbers

-- the new bytes begin with the old ones
abbrev pub Extends : List ℕ → List ℕ → Type 0
Extends old new = take (length old) new ≡ old
