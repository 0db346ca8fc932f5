-- Lists that have their elements in another.
use Rattle.std.proofs.Common.{⊎_elim, List, [], ◌∷◌}
use Rattle.std.specs.List.{Contains}
use Rattle.antichains.specs.Antichains.{IsWithin}
use Rattle.antichains.proofs.Members.{Contains-head, Contains-rest, Contains-none, Contains-cons_cases}

pub IsWithin-refl : {X : Type 0} (xs : List X) → IsWithin xs xs
IsWithin-refl xs = record { each = λ x c. c }

pub IsWithin-trans : {X : Type 0} (xs ys zs : List X) → IsWithin xs ys → IsWithin ys zs → IsWithin xs zs
IsWithin-trans xs ys zs v w = record { each = λ x c. w.each x (v.each x c) }

pub IsWithin-nil : {X : Type 0} (ys : List X) → IsWithin [] ys
IsWithin-nil ys = record { each = λ x c. absurd (Contains-none x c) }

pub IsWithin-head : {X : Type 0} (x : X) (xs ys : List X) → IsWithin (x ∷ xs) ys → Contains ys x
IsWithin-head x xs ys w = w.each x (Contains-head x xs)

pub IsWithin-tail : {X : Type 0} (x : X) (xs ys : List X) → IsWithin (x ∷ xs) ys → IsWithin xs ys
IsWithin-tail x xs ys w = record { each = λ z c. w.each z (Contains-rest x xs z c) }

pub IsWithin-cons : {X : Type 0} (x : X) (xs ys : List X) → Contains ys x → IsWithin xs ys → IsWithin (x ∷ xs) ys
IsWithin-cons x xs ys h w = record { each = λ z c. ⊎_elim (λ e. rw (← e) h) (w.each z) (Contains-cons_cases x xs z c) }

-- also in a longer list
pub IsWithin-longer : {X : Type 0} (y : X) (xs ys : List X) → IsWithin xs ys → IsWithin xs (y ∷ ys)
IsWithin-longer y xs ys w = record { each = λ z c. Contains-rest y ys z (w.each z c) }
