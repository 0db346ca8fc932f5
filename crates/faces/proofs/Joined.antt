-- Faces made of the conjunctions of others.
use Rattle.std.proofs.Common.{◌≡◌, ℕ, ◌<◌, ◌⊎◌, ⊎_elim, List, length, get_or, sym, subst, Result, Ok, Err}
use Rattle.std.specs.Result.{IfOk}
use Rattle.std.specs.List.{All, Contains}
use Rattle.std.proofs.lemmas.List.Elements.{All-contains}
use Rattle.antichains.specs.Antichains.{IsWithin}
use Rattle.antichains.proofs.Members.{All-from_contains}
use Rattle.faces.specs.declared.equations.Equation.{Equation}
use Rattle.faces.specs.Faces.{IsConsistent}

pub consistent_among : (face conjs : List (List Equation)) → IsWithin face conjs → All IsConsistent conjs → All IsConsistent face
consistent_among face conjs w k =
    All-from_contains IsConsistent face (λ conj c. All-contains IsConsistent conjs conj k (w.each conj c))

pub consistent_both : (face left right : List (List Equation)) → ((conj : List Equation) → Contains face conj → Contains left conj ⊎ Contains right conj) → All IsConsistent left → All IsConsistent right → All IsConsistent face
consistent_both face left right among l r =
    All-from_contains IsConsistent face
    (λ conj c. ⊎_elim (All-contains IsConsistent left conj l) (All-contains IsConsistent right conj r) (among conj c))

pub item_at : (face items : List (List Equation)) (i : ℕ) (conj : List Equation) → items ≡ face → i < length items → conj ≡ get_or items i conj → Contains face conj
item_at face items i conj same l e =
    let Has : List (List Equation) → Type 0 = λ z. Contains z conj in
    subst Has same (i, l, sym e)

pub consistent_at : (face items : List (List Equation)) (i : ℕ) (conj : List Equation) → All IsConsistent face → items ≡ face → i < length items → conj ≡ get_or items i conj → IsConsistent conj
consistent_at face items i conj k same l e = All-contains IsConsistent face conj k (item_at face items i conj same l e)

-- what two clauses on one result say together
pub if_ok_both : {X Y : Type 0} (r : Result X Y) (P Q R : X → Type 0) → ((x : X) → P x → Q x → R x) → IfOk r P → IfOk r Q → IfOk r R
if_ok_both (Ok x) P Q R f p q = f x p q
if_ok_both (Err y) P Q R f p q = tt
