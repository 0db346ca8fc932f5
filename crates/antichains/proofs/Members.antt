-- The elements of a list, by its head and its rest.
use Rattle.std.proofs.Common.{◌≡◌, ℕ, zero, suc, ◌<◌, ◌⊎◌, inl, inr, List, [], ◌∷◌, length, get_or, drop, ◌+◌, refl, sym, ◌∙◌, ap, arith}
use Rattle.std.specs.List.{All, Contains}
use Rattle.std.proofs.lemmas.List.{drop_more}
use Rattle.std.proofs.lemmas.List.Elements.{Contains-get_or}

pub Contains-head : {X : Type 0} (x : X) (xs : List X) → Contains (x ∷ xs) x
Contains-head x xs = (0, omega arith, refl)

pub Contains-rest : {X : Type 0} (y : X) (xs : List X) (x : X) → Contains xs x → Contains (y ∷ xs) x
Contains-rest y xs x h = (suc h.0, omega arith, h.2)

pub Contains-none : {X : Type 0} (x : X) → Contains [] x → ⊥
Contains-none x h = omega arith

pub Contains-cons_cases : {X : Type 0} (y : X) (xs : List X) (x : X) → Contains (y ∷ xs) x → (y ≡ x) ⊎ Contains xs x
Contains-cons_cases y xs x (zero, l, e) = inl e
Contains-cons_cases y xs x (suc k, l, e) = inr (k, omega arith, e)

pub All-from_contains : {X : Type 0} (P : X → Type 0) (xs : List X) → ((x : X) → Contains xs x → P x) → All P xs
All-from_contains P xs h k d l = h (get_or xs k d) (Contains-get_or xs k d l)

-- an element that was read at a place stands before what follows it
pub rest_at : {X : Type 0} (xs : List X) (i : ℕ) (x : X) → i < length xs → x ≡ get_or xs i x → drop i xs ≡ x ∷ drop (i + 1) xs
rest_at xs i x l e = drop_more xs i x l ∙ ap (λ z. z ∷ drop (i + 1) xs) (sym e)
