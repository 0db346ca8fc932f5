-- Names that faces fix.
use Rattle.std.specs.Prelude.{◌≡◌, ℕ, zero, suc, Bool, true, false, ◌||◌, nat_eq}

-- whether each index is that of a name that is fixed
abbrev pub Fixed : Type 0
Fixed = ℕ → Bool

abbrev pub IsFree : Fixed → ℕ → Type 0
IsFree z k = z k ≡ false

abbrev pub none_fixed : Fixed
none_fixed k = false

-- one more is
abbrev pub fix : ℕ → Fixed → Fixed
fix index z k = nat_eq k index || z k

-- below one binder, and below so many
abbrev pub bind : Fixed → Fixed
bind z zero = false
bind z (suc k) = z k

abbrev pub bound : ℕ → Fixed → Fixed
bound zero z = z
bound (suc n) z = bind (bound n z)
