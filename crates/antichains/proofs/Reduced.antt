-- What one pass of absorption leaves, and that a sort then makes it a normal form.
use Rattle.std.proofs.Common.{◌≡◌, suc, ◌≤◌, ◌<◌, ◌+◌, ⊎_elim, false, List, [], ◌∷◌, ◌++◌, length, get_or, take, refl, sym, ◌∙◌, ap, arith, Ordering}
use Rattle.std.specs.declared.cmp.Ordering.TheVariants.{Less, Equal, Greater}
use Rattle.std.specs.Cmp.{IsTotalOrder}
use Rattle.std.specs.Cmp.Lexicographic.{slice_cmp}
use Rattle.std.specs.Ordering.{is_lt, is_eq, eq_by_cmp, ordering_reverse}
use Rattle.std.specs.List.{Contains, list_any, IsDistinct}
use Rattle.std.specs.List.Sorted.{IsStrictlySortedBy, IsSorted, IsPermutation, IsNonDecreasingBy}
use Rattle.std.proofs.lemmas.Bool.{false_from_ne_true}
use Rattle.std.proofs.lemmas.Cmp.{eq_by_cmp_equiv}
use Rattle.std.proofs.lemmas.List.{get_or-take, get_or_default}
use Rattle.std.proofs.lemmas.List.Elements.{All-contains, All-from_recursion, All-nil, All-push, Contains-append_left, Contains-push, Contains-push_cases}
use Rattle.std.proofs.lemmas.List.Sorted.{Contains-permutation, All-permutation, sorted_far, ranks_by, IsPermutation-sym}
use Rattle.std.proofs.lemmas.Map.Keys.{IsDistinct-push, IsDistinct-IsPermutation}
use Rattle.antichains.specs.Antichains.{IsWithin, IsNormal}
use Rattle.antichains.proofs.Within.{IsWithin-refl}
use Rattle.antichains.proofs.Members.{Contains-none}
use Rattle.antichains.proofs.Exact.{IsExactOrder, exact_products, is_eq-exact}
use Rattle.antichains.proofs.Ordered.{sorted_cons, sorted_nil, fits_in}
use Rattle.antichains.specs.Reductions.{Covers, IsReduced}
use Rattle.antichains.proofs.Truth.{some_passes}

ordered_less : {K : Type 0} {R : K → K → Ordering} (o : IsTotalOrder R) (x y : K) → is_lt (R y x) ≡ false → eq_by_cmp R x y ≡ false → R x y ≡ Less
ordered_less {R} o x y up apart = less (R x y) (R y x) (o.antisymm x y) up apart
  where
    less : (a b : Ordering) → a ≡ ordering_reverse b → is_lt b ≡ false → is_eq a ≡ false → a ≡ Less
    less Less b e u n = refl
    less Equal b e u n = cc
    less Greater Less e u n = cc
    less Greater Equal e u n = cc
    less Greater Greater e u n = cc

-- a sorted list with nothing twice is strictly sorted
strictly_sorted : {K : Type 0} {R : K → K → Ordering} (o : IsTotalOrder R) (xs : List K) → IsSorted R xs → IsDistinct (eq_by_cmp R) xs → IsStrictlySortedBy R xs
unfolding IsDistinct
strictly_sorted {R} o [] up d = sorted_nil R
strictly_sorted {R} o (x ∷ xs) up d =
    sorted_cons R x xs
    (λ y c.
    let apart = All-contains (λ z. eq_by_cmp R x z ≡ false) xs y (All-from_recursion (λ z. eq_by_cmp R x z ≡ false) xs d.0) c in
    let far = sorted_far (λ a b. is_lt (R a b)) (ranks_by o (λ z. z)) (x ∷ xs) up 0 (suc c.0) y (omega arith) (omega arith) in
    ordered_less o x y (rw c.2 at far) apart)
    (strictly_sorted o xs (λ k e low h. let next : suc k + 1 ≡ suc (k + 1) = omega arith in rw next at (up (suc k) e (omega arith) (omega arith))) d.1)

pub reduced_nil : {X : Type 0} (R : X → X → Ordering) → IsReduced R [] []
unfolding IsDistinct
reduced_nil R = record {
  covers = record { among = λ xs c. c; below = λ xs c. absurd (Contains-none xs c) };
  sorted = All-nil (IsStrictlySortedBy R);
  irredundant = record { apart = λ xs ys c d w. absurd (Contains-none xs c) };
  distinct = tt;
}

-- a product that has a kept one within it goes
pub reduced_skip : {X : Type 0} (R : X → X → Ordering) (kept done : List (List X)) (xs : List X) → IsReduced R kept done → (ys : List X) × Contains kept ys × IsWithin ys xs → IsReduced R kept (done ++ xs ∷ [])
reduced_skip R kept done xs r (ys, c, w) = record {
  covers = record {
    among = λ zs d. Contains-append_left done (xs ∷ []) zs (r.covers.among zs d);
    below = λ zs d. ⊎_elim (r.covers.below zs) (λ e. (ys, c, rw (← e) w)) (Contains-push_cases done xs zs d);
  };
  sorted = r.sorted;
  irredundant = r.irredundant;
  distinct = r.distinct;
}

-- a product that has none within it stays, if none is longer
pub reduced_push : {X : Type 0} {R : X → X → Ordering} (o : IsExactOrder R) (kept done : List (List X)) (xs : List X) → IsReduced R kept done → IsStrictlySortedBy R xs → ((ys : List X) → Contains kept ys → IsWithin ys xs → ⊥) → ((ys : List X) → Contains kept ys → length ys ≤ length xs) → IsReduced R (kept ++ xs ∷ []) (done ++ xs ∷ [])
reduced_push {X} {R} o kept done xs r s none short = record {
  covers = record {
    among = λ zs c. ⊎_elim (λ d. Contains-append_left done (xs ∷ []) zs (r.covers.among zs d)) (λ e. rw (← e) (Contains-push done xs)) (Contains-push_cases kept xs zs c);
    below = λ zs c.
        ⊎_elim
        (λ d. let b = r.covers.below zs d in (b.0, Contains-append_left kept (xs ∷ []) b.0 b.1, b.2))
        (λ e. (xs, Contains-push kept xs, rw (← e) (IsWithin-refl xs)))
        (Contains-push_cases done xs zs c);
  };
  sorted = All-push (IsStrictlySortedBy R) kept xs r.sorted s;
  irredundant = record {
    apart = λ ys zs c d w.
        ⊎_elim
        (λ a.
        ⊎_elim
        (λ b. r.irredundant.apart ys zs a b w)
        (λ e. absurd (none ys a (rw (← e) at w)))
        (Contains-push_cases kept xs zs d))
        (λ e.
        ⊎_elim
        (λ b. absurd (none zs b (longer_within zs b (rw (← e) at w))))
        (λ f. sym e ∙ f)
        (Contains-push_cases kept xs zs d))
        (Contains-push_cases kept xs ys c);
  };
  distinct = IsDistinct-push (eq_by_cmp_equiv (exact_products o).total) kept xs r.distinct
      (false_from_ne_true (list_any (eq_by_cmp (slice_cmp R) xs) kept)
      (λ h.
      let found = some_passes (eq_by_cmp (slice_cmp R) xs) kept h in
      let e = is_eq-exact (exact_products o) xs found.0 found.2 in
      none found.0 found.1 (rw (← e) (IsWithin-refl xs))));
}
  where
    -- what is as short as a list that it has within it is that list
    longer_within : (zs : List X) → Contains kept zs → IsWithin xs zs → IsWithin zs xs
    longer_within zs b w =
        let e = (fits_in o.total xs zs s (All-contains (IsStrictlySortedBy R) kept zs r.sorted b) w).full (short zs b) in
        rw e (IsWithin-refl zs)

Covers-permutation : {X : Type 0} (kept final all : List (List X)) → IsPermutation kept final → Covers kept all → Covers final all
Covers-permutation kept final all p c = record {
  among = λ xs d. c.among xs (Contains-permutation final kept xs (IsPermutation-sym kept final p) d);
  below = λ xs d. let b = c.below xs d in (b.0, Contains-permutation kept final b.0 p b.1, b.2);
}

pub normal_from_reduced : {X : Type 0} {R : X → X → Ordering} (o : IsExactOrder R) (kept final all : List (List X)) → IsReduced R kept all → IsPermutation kept final → IsSorted (slice_cmp R) final → IsNormal R final × Covers final all
normal_from_reduced {R} o kept final all r p up = (
  record {
    elements_sorted = All-permutation (IsStrictlySortedBy R) kept final p r.sorted;
    products_sorted =
        strictly_sorted (exact_products o).total final up
        (IsDistinct-IsPermutation (eq_by_cmp (slice_cmp R)) (eq_by_cmp_equiv (exact_products o).total).symm kept final p r.distinct);
    irredundant = record {
      apart = λ xs ys c d w.
          r.irredundant.apart xs ys
          (Contains-permutation final kept xs (IsPermutation-sym kept final p) c)
          (Contains-permutation final kept ys (IsPermutation-sym kept final p) d)
          w;
    };
  },
  Covers-permutation kept final all p r.covers,
)

-- of products in order of length, none that was taken before is longer than the next
pub none_longer : {X : Type 0} (all done : List (List X)) (xs : List X) → IsNonDecreasingBy length all → done ≡ take (length done) all → (length done < length all) × (xs ≡ get_or all (length done) xs) → (ys : List X) → Contains done ys → length ys ≤ length xs
none_longer all done xs up so_far turn ys (k, l, e) =
    let here = sym e ∙ ap (λ zs. get_or zs k ys) so_far ∙ get_or-take (length done) all k ys l in
    let next = turn.1 ∙ get_or_default all (length done) xs ys turn.0 in
    let longer = up k (length done) ys (omega arith) turn.0 in
    rw (here, next) longer
