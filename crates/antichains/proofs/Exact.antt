-- Orders whose ties are equal, and that lists have such an order if their elements do.
use Rattle.std.proofs.Common.{◌≡◌, true, List, [], ◌∷◌, refl, Ordering}
use Rattle.std.specs.declared.cmp.Ordering.TheVariants.{Less, Equal, Greater}
use Rattle.std.specs.Cmp.{IsTotalOrder}
use Rattle.std.specs.Cmp.Lexicographic.{slice_cmp}
use Rattle.std.specs.Ordering.{is_eq, eq_by_cmp, ordering_then}
use Rattle.std.proofs.lemmas.Cmp.{lists_total}

-- an order whose ties are equal
pub record IsExactOrder {X : Type 0} (R : X → X → Ordering) : Type 0 where
  pub total : IsTotalOrder R
  pub exact : (x y : X) → R x y ≡ Equal → x ≡ y

then_equal : (a b : Ordering) → ordering_then a b ≡ Equal → (a ≡ Equal) × (b ≡ Equal)
then_equal Less b h = cc
then_equal Equal b h = (refl, h)
then_equal Greater b h = cc

exact_lists : {X : Type 0} {R : X → X → Ordering} → IsExactOrder R → (xs ys : List X) → slice_cmp R xs ys ≡ Equal → xs ≡ ys
exact_lists o [] [] h = refl
exact_lists o [] (y ∷ ys) h = cc
exact_lists o (x ∷ xs) [] h = cc
exact_lists {R} o (x ∷ xs) (y ∷ ys) h =
    let both = then_equal (R x y) (slice_cmp R xs ys) h in
    let head = o.exact x y both.0 in
    let rest = exact_lists o xs ys both.1 in
    cc

-- lists are in an exact order if their elements are
pub exact_products : {X : Type 0} {R : X → X → Ordering} → IsExactOrder R → IsExactOrder (slice_cmp R)
exact_products o = record { total = lists_total o.total; exact = exact_lists o }

pub is_eq-exact : {X : Type 0} {R : X → X → Ordering} → IsExactOrder R → (x y : X) → eq_by_cmp R x y ≡ true → x ≡ y
is_eq-exact {R} o x y h = o.exact x y (equal_from (R x y) h)
  where
    equal_from : (a : Ordering) → is_eq a ≡ true → a ≡ Equal
    equal_from Less h = cc
    equal_from Equal h = refl
    equal_from Greater h = cc
