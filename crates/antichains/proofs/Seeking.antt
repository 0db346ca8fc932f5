-- One walk along a strictly sorted list finds the elements of another.
use Rattle.std.proofs.Common.{◌≡◌, ◌↔◌, ℕ, ◌<◌, ◌≤◌, ⊎_elim, Bool, true, false, List, [], ◌∷◌, length, get_or, drop, refl, sym, ◌∙◌, ap, arith, Ordering, IsTrue, eqb}
use Rattle.std.specs.declared.cmp.Ordering.TheVariants.{Less, Equal, Greater}
use Rattle.std.specs.Ordering.{match_ordering}
use Rattle.std.specs.List.Sorted.{IsStrictlySortedBy}
use Rattle.std.proofs.lemmas.Bool.{eq-eqb, ne_eqb, cases_eq}
use Rattle.std.proofs.lemmas.List.{drop_all, length-drop}
use Rattle.antichains.specs.Antichains.{IsWithin}
use Rattle.antichains.proofs.Within.{IsWithin-nil, IsWithin-head, IsWithin-tail, IsWithin-cons, IsWithin-longer}
use Rattle.antichains.proofs.Members.{Contains-head, Contains-none, rest_at}
use Rattle.antichains.proofs.Exact.{IsExactOrder}
use Rattle.antichains.proofs.Ordered.{sorted_rest, sorted_head, within_rest, above_all, never_among}

-- whether the walk along the first list finds all of the second
abbrev pub finds_all : {X : Type 0} → (X → X → Ordering) → List X → List X → Bool
finds_all R xs [] = true
finds_all R [] (y ∷ ys) = false
finds_all R (x ∷ xs) (y ∷ ys) = match_ordering (R x y) (finds_all R xs (y ∷ ys)) (finds_all R xs ys) false

none_left : {X : Type 0} (R : X → X → Ordering) (ys : List X) → 0 < length ys → finds_all R [] ys ≡ false
none_left R [] l = absurd (omega arith)
none_left R (y ∷ ys) l = refl

module _ {X : Type 0} {R : X → X → Ordering} (o : IsExactOrder R) where
  pub finds_all-within : (xs ys : List X) → IsStrictlySortedBy R xs → IsStrictlySortedBy R ys → IsTrue (finds_all R xs ys) ↔ IsWithin ys xs
  finds_all-within xs [] sx sy = (λ h. IsWithin-nil xs, λ w. refl)
  finds_all-within [] (y ∷ ys) sx sy = (λ h. cc, λ w. absurd (Contains-none y (IsWithin-head y ys [] w)))
  finds_all-within (x ∷ xs) (y ∷ ys) sx sy =
      step (R x y) refl (finds_all-within xs (y ∷ ys) (sorted_rest R x xs sx) sy) (finds_all-within xs ys (sorted_rest R x xs sx) (sorted_rest R y ys sy))
    where
      step : (a : Ordering) → R x y ≡ a → IsTrue (finds_all R xs (y ∷ ys)) ↔ IsWithin (y ∷ ys) xs → IsTrue (finds_all R xs ys) ↔ IsWithin ys xs → IsTrue (match_ordering a (finds_all R xs (y ∷ ys)) (finds_all R xs ys) false) ↔ IsWithin (y ∷ ys) (x ∷ xs)
      step Less e later next = (
        λ h. IsWithin-longer x (y ∷ ys) xs (later.0 h),
        λ w. later.1 (within_rest o.total x xs (y ∷ ys) (above_all o.total x y ys e sy) w),
      )
      step Equal e later next =
          let same = o.exact x y e in (
            λ h. IsWithin-cons y ys (x ∷ xs) (rw same (Contains-head y xs)) (IsWithin-longer x ys xs (next.0 h)),
            λ w. next.1 (within_rest o.total x xs ys (λ z c. rw same (sorted_head R y ys sy z c)) (IsWithin-tail y ys (x ∷ xs) w)),
          )
      step Greater e later next = (
        λ h. cc,
        λ w.
            let below : R y x ≡ Less = rw e at (o.total.antisymm y x) in
            absurd (never_among o.total y x xs below sx (IsWithin-head y ys (x ∷ xs) w)),
      )

  -- a walk that has come to place i with j elements found
  module _ (xs ys : List X) (i j : ℕ) (sx : IsStrictlySortedBy R xs) (sy : IsStrictlySortedBy R ys) (walk : finds_all R (drop i xs) (drop j ys) ≡ finds_all R xs ys) where
    pub all_found : j ≡ length ys → IsTrue true ↔ IsWithin ys xs
    all_found e =
        let whole : finds_all R xs ys ≡ true = sym walk ∙ ap (finds_all R (drop i xs)) (drop_all j ys (omega arith)) in
        rw whole at (finds_all-within xs ys sx sy)

    pub one_missing : (x y : X) → i < length xs → j < length ys → x ≡ get_or xs i x → y ≡ get_or ys j y → Greater ≡ R x y → IsTrue false ↔ IsWithin ys xs
    one_missing x y l k e f h =
        let heads = rw (rest_at xs i x l e, rest_at ys j y k f, ← h) at walk in
        rw (← heads) at (finds_all-within xs ys sx sy)

    pub at_end : length xs ≤ i → j ≤ length ys → IsTrue (eqb j (length ys)) ↔ IsWithin ys xs
    at_end l k =
        ⊎_elim
        (λ e. rw (eq-eqb j (length ys) e) (all_found e))
        (λ (e : j ≡ length ys → ⊥).
        let left : 0 < length (drop j ys) = simp length-drop (omega arith) in
        let ended = sym walk ∙ ap (λ zs. finds_all R zs (drop j ys)) (drop_all i xs l) ∙ none_left R (drop j ys) left in
        rw (ne_eqb j (length ys) e) (rw ended at (finds_all-within xs ys sx sy)))
        (cases_eq j (length ys))
