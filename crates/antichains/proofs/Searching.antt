-- A binary search in a strictly sorted list finds each of its elements, and what it finds can be taken out.
use Rattle.std.proofs.Common.{◌≡◌, ◌↔◌, ℕ, zero, suc, ◌<◌, ◌+◌, ⊎_elim, false, List, [], ◌∷◌, ◌++◌, length, get_or, take, drop, refl, sym, ap, subst, arith, Ordering, Result, Ok, Err, IsTrue}
use Rattle.std.specs.declared.cmp.Ordering.TheVariants.{Less, Equal, Greater}
use Rattle.std.specs.Cmp.{IsTotalOrder}
use Rattle.std.specs.Ordering.{is_lt, ordering_reverse}
use Rattle.std.specs.Result.{is_ok}
use Rattle.std.specs.List.{Contains, remove}
use Rattle.std.specs.List.Sorted.{IsStrictlySortedBy, IsSorted, IsBinarySearchResult, IsSearchInRange}
use Rattle.std.proofs.lemmas.Bool.{cases_lt}
use Rattle.std.proofs.lemmas.Cmp.{tied_itself}
use Rattle.std.proofs.lemmas.List.Elements.{Contains-append_left, Contains-append_right, Contains-append_cases}
use Rattle.std.proofs.lemmas.List.Sorted.{searchable_from_sorted}
use Rattle.antichains.specs.Antichains.{IsWithout}
use Rattle.antichains.proofs.Within.{IsWithin-refl}
use Rattle.antichains.proofs.Members.{Contains-head, Contains-rest, Contains-cons_cases}
use Rattle.antichains.proofs.Exact.{IsExactOrder}
use Rattle.antichains.proofs.Ordered.{sorted_append, sorted_prefix, sorted_suffix, sorted_across, sorted_head, sorted_rest, never_below_itself}

not_lt : (a b : Ordering) → a ≡ ordering_reverse b → b ≡ Less → is_lt a ≡ false
not_lt a b e h = rw (e, h) refl

IsSorted-from_strictly : {K : Type 0} {R : K → K → Ordering} (o : IsTotalOrder R) (xs : List K) → IsStrictlySortedBy R xs → IsSorted R xs
IsSorted-from_strictly o [] s k d low h = absurd (omega arith)
IsSorted-from_strictly o (x ∷ []) s k d low h = absurd (omega arith)
IsSorted-from_strictly {R} o (x ∷ y ∷ xs) s zero d low h =
    not_lt (R y x) (R x y) (o.antisymm y x) (sorted_head R x (y ∷ xs) s y (Contains-head y xs))
IsSorted-from_strictly {R} o (x ∷ y ∷ xs) s (suc k) d low h =
    let next : suc k + 1 ≡ suc (k + 1) = omega arith in
    rw next (IsSorted-from_strictly o (y ∷ xs) (sorted_rest R x (y ∷ xs) s) k d (omega arith) (omega arith))

module _ {X : Type 0} {R : X → X → Ordering} (o : IsExactOrder R) where
  pub found_at : (xs : List X) (x : X) (i : ℕ) → i < length xs → ((d : X) → R (get_or xs i d) x ≡ Equal) → get_or xs i x ≡ x
  found_at xs x i l h = o.exact (get_or xs i x) x (h x)

  pub not_found : (xs : List X) (x : X) (i : ℕ) → IsStrictlySortedBy R xs → IsBinarySearchResult (λ y. R y x) xs (Err i) → Contains xs x → ⊥
  not_found xs x i s found (k, l, e) =
      let split = found (searchable_from_sorted o.total (λ y. y) xs x (IsSorted-from_strictly o.total xs s)) in
      let tied = tied_itself o.total x in
      ⊎_elim
      (λ h. let less : R x x ≡ Less = rw e at (split.0 k x (omega arith) h) in cc)
      (λ h. let more : R x x ≡ Greater = rw e at (split.1 k x h l) in cc)
      (cases_lt k i)

  pub searched : (xs : List X) (x : X) (r : Result ℕ ℕ) → IsStrictlySortedBy R xs → IsSearchInRange r (length xs) → IsBinarySearchResult (λ y. R y x) xs r → IsTrue (is_ok r) ↔ Contains xs x
  searched xs x (Ok i) s range found = (λ h. (i, range, found_at xs x i range found), λ c. refl)
  searched xs x (Err i) s range found = (λ h. cc, λ c. absurd (not_found xs x i s found c))

  -- one element is taken out of the middle
  pub sorted_without : (before : List X) (x : X) (after : List X) → IsStrictlySortedBy R (before ++ x ∷ after) → IsStrictlySortedBy R (before ++ after)
  sorted_without before x after s =
      sorted_append R before after (sorted_prefix R before (x ∷ after) s) (sorted_rest R x after (sorted_suffix R before (x ∷ after) s))
      (λ y z c d. sorted_across R before (x ∷ after) s y z c (Contains-rest x after z d))

  pub without_middle : (before : List X) (x : X) (after : List X) → IsStrictlySortedBy R (before ++ x ∷ after) → IsWithout (before ++ x ∷ after) x (before ++ after)
  without_middle before x after s = record {
    from = record {
      each = λ y c.
          ⊎_elim
          (Contains-append_left before (x ∷ after) y)
          (λ d. Contains-append_right before (x ∷ after) y (Contains-rest x after y d))
          (Contains-append_cases before after y c);
    };
    kept = λ y c apart.
        ⊎_elim
        (Contains-append_left before after y)
        (λ d.
        ⊎_elim
        (λ e. absurd (apart (sym e)))
        (Contains-append_right before after y)
        (Contains-cons_cases x after y d))
        (Contains-append_cases before (x ∷ after) y c);
    gone = λ c.
        ⊎_elim
        (λ d. never_below_itself o.total x (sorted_across R before (x ∷ after) s x x d (Contains-head x after)))
        (λ d. never_below_itself o.total x (sorted_head R x after (sorted_suffix R before (x ∷ after) s) x d))
        (Contains-append_cases before after x c);
  }

  split_at : (xs : List X) (x : X) (i : ℕ) → i < length xs → get_or xs i x ≡ x → xs ≡ take i xs ++ x ∷ drop (suc i) xs
  split_at (y ∷ xs) x zero l e = ap (λ z. z ∷ xs) e
  split_at (y ∷ xs) x (suc i) l e = ap (λ zs. y ∷ zs) (split_at xs x i (omega arith) e)
  split_at [] x i l e = absurd (omega arith)

  pub removed : (xs : List X) (x : X) (i : ℕ) → i < length xs → ((d : X) → R (get_or xs i d) x ≡ Equal) → IsStrictlySortedBy R xs → IsStrictlySortedBy R (remove xs i) × IsWithout xs x (remove xs i)
  removed xs x i l h s =
      let split = split_at xs x i l (found_at xs x i l h) in
      let before : List X = take i xs in
      let after : List X = drop (suc i) xs in
      let Sorted : List X → Type 0 = λ ys. IsStrictlySortedBy R ys in
      let whole = subst Sorted split s in
      let Without : List X → Type 0 = λ ys. IsWithout ys x (before ++ after) in
      (sorted_without before x after whole, subst Without (sym split) (without_middle before x after whole))

  pub not_removed : (xs : List X) (x : X) → (Contains xs x → ⊥) → IsWithout xs x xs
  not_removed xs x none = record {
    from = IsWithin-refl xs;
    kept = λ y c apart. c;
    gone = none;
  }
