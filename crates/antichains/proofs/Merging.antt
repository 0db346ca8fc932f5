-- How a merge of two strictly sorted lists goes on.
use Rattle.std.proofs.Common.{◌≡◌, ℕ, ◌<◌, ◌+◌, ◌⊎◌, ⊎_elim, inl, inr, List, [], ◌∷◌, ◌++◌, length, get_or, drop, sym, subst, append_assoc, Ordering}
use Rattle.std.specs.declared.cmp.Ordering.TheVariants.{Less, Equal, Greater}
use Rattle.std.specs.List.{Contains}
use Rattle.std.specs.List.Sorted.{IsStrictlySortedBy}
use Rattle.std.proofs.lemmas.List.{append-nil}
use Rattle.std.proofs.lemmas.List.Elements.{Contains-append_left, Contains-append_right, Contains-append_cases, Contains-push, Contains-push_cases}
use Rattle.antichains.specs.Antichains.{IsWithin, IsUnion}
use Rattle.antichains.proofs.Within.{IsWithin-refl, IsWithin-head, IsWithin-tail}
use Rattle.antichains.proofs.Members.{Contains-head, Contains-none, Contains-cons_cases, rest_at}
use Rattle.antichains.proofs.Exact.{IsExactOrder}
use Rattle.antichains.proofs.Ordered.{sorted_append, sorted_prefix, sorted_suffix, sorted_across, sorted_cons, above_all}

-- xs and ys are merged into done, but for the rests of both
pub record IsMerging {X : Type 0} (R : X → X → Ordering) (xs ys done rest more : List X) : Type 0 where
  pub before_rest : IsStrictlySortedBy R (done ++ rest)
  pub before_more : IsStrictlySortedBy R (done ++ more)
  pub from : (x : X) → Contains done x → Contains xs x ⊎ Contains ys x
  pub rest_from : IsWithin rest xs
  pub more_from : IsWithin more ys
  pub left : (x : X) → Contains xs x → Contains done x ⊎ Contains rest x
  pub right : (x : X) → Contains ys x → Contains done x ⊎ Contains more x

pub merging_none : {X : Type 0} (R : X → X → Ordering) (xs ys : List X) → IsStrictlySortedBy R xs → IsStrictlySortedBy R ys → IsMerging R xs ys [] xs ys
merging_none R xs ys sx sy = record {
  before_rest = sx;
  before_more = sy;
  from = λ x c. absurd (Contains-none x c);
  rest_from = IsWithin-refl xs;
  more_from = IsWithin-refl ys;
  left = λ x c. inr c;
  right = λ x c. inr c;
}

pub merging_back : {X : Type 0} {R : X → X → Ordering} {xs ys done rest more : List X} → IsMerging R xs ys done rest more → IsMerging R ys xs done more rest
merging_back m = record {
  before_rest = m.before_more;
  before_more = m.before_rest;
  from = λ x c. ⊎_elim (λ d. inr d) (λ d. inl d) (m.from x c);
  rest_from = m.more_from;
  more_from = m.rest_from;
  left = m.right;
  right = m.left;
}

-- the first element of a rest goes to what is done
moved : {X : Type 0} (done : List X) (x : X) (rest : List X) (z : X) → Contains done z ⊎ Contains (x ∷ rest) z → Contains (done ++ x ∷ []) z ⊎ Contains rest z
moved done x rest z c =
    ⊎_elim
    (λ d. inl (Contains-append_left done (x ∷ []) z d))
    (λ d. ⊎_elim (λ e. inl (rw (← e) (Contains-push done x))) (λ h. inr h) (Contains-cons_cases x rest z d))
    c

stayed : {X : Type 0} (done : List X) (x : X) (more : List X) (z : X) → Contains done z ⊎ Contains more z → Contains (done ++ x ∷ []) z ⊎ Contains more z
stayed done x more z c = ⊎_elim (λ d. inl (Contains-append_left done (x ∷ []) z d)) (λ d. inr d) c

from_done : {X : Type 0} (xs ys done : List X) (x : X) → ((z : X) → Contains done z → Contains xs z ⊎ Contains ys z) → Contains xs x → (z : X) → Contains (done ++ x ∷ []) z → Contains xs z ⊎ Contains ys z
from_done xs ys done x from c z d = ⊎_elim (from z) (λ e. inl (rw (← e) c)) (Contains-push_cases done x z d)

module _ {X : Type 0} {R : X → X → Ordering} (o : IsExactOrder R) where
  -- what is done takes an element below all that is left
  before_both : (done : List X) (x y : X) (rest more : List X) → R x y ≡ Less → IsStrictlySortedBy R (done ++ x ∷ rest) → IsStrictlySortedBy R (done ++ y ∷ more) → IsStrictlySortedBy R ((done ++ x ∷ []) ++ y ∷ more)
  before_both done x y rest more l s t =
      let back = sorted_suffix R done (y ∷ more) t in
      rw append_assoc
      (sorted_append R done (x ∷ y ∷ more) (sorted_prefix R done (x ∷ rest) s)
      (sorted_cons R x (y ∷ more) (above_all o.total x y more l back) back)
      (λ z w c d.
      ⊎_elim
      (λ e. rw (← e) (sorted_across R done (x ∷ rest) s z x c (Contains-head x rest)))
      (sorted_across R done (y ∷ more) t z w c)
      (Contains-cons_cases x (y ∷ more) w d)))

  pub merging_less : (xs ys done : List X) (x : X) (rest : List X) (y : X) (more : List X) → IsMerging R xs ys done (x ∷ rest) (y ∷ more) → R x y ≡ Less → IsMerging R xs ys (done ++ x ∷ []) rest (y ∷ more)
  merging_less xs ys done x rest y more m l = record {
    before_rest = rw append_assoc m.before_rest;
    before_more = before_both done x y rest more l m.before_rest m.before_more;
    from = from_done xs ys done x m.from (IsWithin-head x rest xs m.rest_from);
    rest_from = IsWithin-tail x rest xs m.rest_from;
    more_from = m.more_from;
    left = λ z c. moved done x rest z (m.left z c);
    right = λ z c. stayed done x (y ∷ more) z (m.right z c);
  }

  pub merging_equal : (xs ys done : List X) (x : X) (rest : List X) (y : X) (more : List X) → IsMerging R xs ys done (x ∷ rest) (y ∷ more) → R x y ≡ Equal → IsMerging R xs ys (done ++ x ∷ []) rest more
  merging_equal xs ys done x rest y more m h =
      let same = o.exact x y h in
      let Before : X → Type 0 = λ z. IsStrictlySortedBy R (done ++ z ∷ more) in
      let Among : X → Type 0 = λ z. (w : X) → Contains ys w → Contains done w ⊎ Contains (z ∷ more) w in
      let right = subst Among (sym same) m.right in
      record {
        before_rest = rw append_assoc m.before_rest;
        before_more = rw append_assoc (subst Before (sym same) m.before_more);
        from = from_done xs ys done x m.from (IsWithin-head x rest xs m.rest_from);
        rest_from = IsWithin-tail x rest xs m.rest_from;
        more_from = IsWithin-tail y more ys m.more_from;
        left = λ z c. moved done x rest z (m.left z c);
        right = λ z c. moved done x more z (right z c);
      }

  pub merging_greater : (xs ys done : List X) (x : X) (rest : List X) (y : X) (more : List X) → IsMerging R xs ys done (x ∷ rest) (y ∷ more) → R x y ≡ Greater → IsMerging R xs ys (done ++ y ∷ []) (x ∷ rest) more
  merging_greater xs ys done x rest y more m h =
      let below : R y x ≡ Less = rw h at (o.total.antisymm y x) in
      merging_back (merging_less ys xs done y more x rest (merging_back m) below)

  -- the three steps by places
  module _ (xs ys done new : List X) (i j : ℕ) (x y : X) (left_in : i < length xs) (right_in : j < length ys) (x_is : x ≡ get_or xs i x) (y_is : y ≡ get_or ys j y) (m : IsMerging R xs ys done (drop i xs) (drop j ys)) where
    heads : IsMerging R xs ys done (x ∷ drop (i + 1) xs) (y ∷ drop (j + 1) ys)
    heads = rw (rest_at xs i x left_in x_is, rest_at ys j y right_in y_is) at m

    pub step_less : Less ≡ R x y → new ≡ done ++ x ∷ [] → IsMerging R xs ys new (drop (i + 1) xs) (drop j ys)
    step_less l e = rw (e, rest_at ys j y right_in y_is) (merging_less xs ys done x (drop (i + 1) xs) y (drop (j + 1) ys) heads (sym l))

    pub step_equal : Equal ≡ R x y → new ≡ done ++ x ∷ [] → IsMerging R xs ys new (drop (i + 1) xs) (drop (j + 1) ys)
    step_equal l e = rw e (merging_equal xs ys done x (drop (i + 1) xs) y (drop (j + 1) ys) heads (sym l))

    pub step_greater : Greater ≡ R x y → new ≡ done ++ y ∷ [] → IsMerging R xs ys new (drop i xs) (drop (j + 1) ys)
    step_greater l e = rw (e, rest_at xs i x left_in x_is) (merging_greater xs ys done x (drop (i + 1) xs) y (drop (j + 1) ys) heads (sym l))

-- where one rest is empty, the other ends the merge
pub merged_all : {X : Type 0} {R : X → X → Ordering} (xs ys done rest more : List X) → IsMerging R xs ys done rest more → (rest ≡ []) ⊎ (more ≡ []) → IsStrictlySortedBy R ((done ++ rest) ++ more) × IsUnion xs ys ((done ++ rest) ++ more)
merged_all {X} {R} xs ys done rest more m ended = (
  ⊎_elim
      (λ e. let Ends : List X → Type 0 = λ zs. IsStrictlySortedBy R ((done ++ zs) ++ more) in subst Ends (sym e) (rw (append-nil done) m.before_more))
      (λ e. let Ends : List X → Type 0 = λ zs. IsStrictlySortedBy R ((done ++ rest) ++ zs) in subst Ends (sym e) (rw (append-nil (done ++ rest)) m.before_rest))
      ended,
  record {
    from = λ x c.
        ⊎_elim
        (λ d. ⊎_elim (m.from x) (λ b. inl (m.rest_from.each x b)) (Contains-append_cases done rest x d))
        (λ d. inr (m.more_from.each x d))
        (Contains-append_cases (done ++ rest) more x c);
    left = record {
      each = λ x c.
          Contains-append_left (done ++ rest) more x
          (⊎_elim (Contains-append_left done rest x) (Contains-append_right done rest x) (m.left x c));
    };
    right = record {
      each = λ x c.
          ⊎_elim
          (λ d. Contains-append_left (done ++ rest) more x (Contains-append_left done rest x d))
          (Contains-append_right (done ++ rest) more x)
          (m.right x c);
    };
  },
)
