-- A normal form is the only one with its truth.
use Rattle.std.proofs.Common.{◌≡◌, Bool, true, List, sym, ◌∙◌, ap, subst, Ordering}
use Rattle.std.specs.Ordering.{eq_by_cmp, is_eq}
use Rattle.std.specs.List.{Contains, list_all, list_any}
use Rattle.std.specs.List.Sorted.{IsStrictlySortedBy}
use Rattle.std.proofs.lemmas.Cmp.{tied_itself}
use Rattle.std.proofs.lemmas.List.Elements.{All-contains}
use Rattle.antichains.specs.Antichains.{IsWithin, IsNormal, HaveSameTruth}
use Rattle.antichains.proofs.Within.{IsWithin-trans}
use Rattle.antichains.proofs.Exact.{IsExactOrder, exact_products, is_eq-exact}
use Rattle.antichains.proofs.Ordered.{within_both}
use Rattle.antichains.proofs.Truth.{passes_at, passes_from, some_passes, some_from}

module _ {X : Type 0} {R : X → X → Ordering} (o : IsExactOrder R) where
  -- the test of being an element
  is_among : List X → X → Bool
  is_among xs x = list_any (eq_by_cmp R x) xs

  is_among-true : (xs : List X) (x : X) → is_among xs x ≡ true → Contains xs x
  unfolding is_among
  is_among-true xs x h = let found = some_passes (eq_by_cmp R x) xs h in rw (is_eq-exact o x found.0 found.2) found.1

  among_itself : (xs : List X) → list_all (is_among xs) xs ≡ true
  unfolding is_among
  among_itself xs =
      passes_from (is_among xs) xs (λ x c. some_from (eq_by_cmp R x) xs x c (ap is_eq (tied_itself o.total x)))

  -- a product of a normal form has one of any other with its truth within it
  product_within : (left right : List (List X)) → HaveSameTruth left right → (xs : List X) → Contains left xs → (ys : List X) × Contains right ys × IsWithin ys xs
  product_within left right same xs c =
      let holds = sym (same (is_among xs)) ∙ some_from (list_all (is_among xs)) left xs c (among_itself xs) in
      let found = some_passes (list_all (is_among xs)) right holds in
      (found.0, found.1, record { each = λ x d. is_among-true xs x (passes_at (is_among xs) found.0 x found.2 d) })

  products_within : (left right : List (List X)) → IsNormal R left → IsNormal R right → HaveSameTruth left right → IsWithin left right
  products_within left right l r same =
      record { each = λ xs c. within_right xs c }
    where
      within_right : (xs : List X) → Contains left xs → Contains right xs
      within_right xs c =
          let down = product_within left right same xs c in
          let ys : List X = down.0 in
          let back = product_within right left (λ test. sym (same test)) ys down.1 in
          let zs : List X = back.0 in
          let e = l.irredundant.apart zs xs back.1 c (IsWithin-trans zs ys xs back.2 down.2) in
          let WithinYs : List X → Type 0 = λ v. IsWithin v ys in
          let up = subst WithinYs e back.2 in
          let sx = All-contains (IsStrictlySortedBy R) left xs l.elements_sorted c in
          let sy = All-contains (IsStrictlySortedBy R) right ys r.elements_sorted down.1 in
          let InRight : List X → Type 0 = λ v. Contains right v in
          subst InRight (sym (within_both o.total xs ys sx sy up down.2)) down.1

  pub unique_normal : (left right : List (List X)) → IsNormal R left → IsNormal R right → HaveSameTruth left right → left ≡ right
  unique_normal left right l r same =
      within_both (exact_products o).total left right l.products_sorted r.products_sorted
      (products_within left right l r same)
      (products_within right left r l (λ test. sym (same test)))
