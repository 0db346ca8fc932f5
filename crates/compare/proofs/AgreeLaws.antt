-- A walk over pairs of closures.
use Rattle.std.proofs.Common.{◌≡◌, ℕ, zero, suc, ◌+◌, ◌<◌, ◌≤◌, List, [], ◌∷◌, ◌++◌, length, drop, get_or, refl, sym, ◌∙◌, ap, ap₂, arith, Some, length-append}
use Rattle.std.specs.Prelude.{slice_get}
use Rattle.std.specs.List.{All, Contains}
use Rattle.std.proofs.lemmas.List.Elements.{All-contains, All-append, All-weaker, All-same}
use Rattle.trees.specs.Things.{Meanings}
use Rattle.rows.specs.Tables.{Grows}
use Rattle.closures.specs.Environments.{Waiting}
use Rattle.compare.specs.Pairs.{Agrees, IsPair, Opens, pair_size, total}
use Rattle.compare.specs.declared.pairs.Pair.{Pair}
use Rattle.compare.proofs.StandLaws.{is_pair-grows, is_pair-weaker, SamePair, same_pair, drop-length}
use Rattle.compare.proofs.WalkLaws.{Each, All-from_each, Rests, rests-begin, rests-end, rests-opened, rests-same, contains-place, sum_of, smaller-opened}

-- the pairs stand, and agree exactly where the first ones did
pub record Walk (f : Meanings) (start : List (List Waiting)) (firsts : List Pair) (known : List (List Waiting)) (at : ℕ) (pairs : List Pair) : Type 0 where
  pub stand : All (IsPair f known (length pairs)) pairs
  pub rests : Rests (Agrees f known) (pair_size f known) (Each (Agrees f start) firsts) at pairs

pub walk-begin : (f : Meanings) (known : List (List Waiting)) (firsts : List Pair) → All (IsPair f known 0) firsts → Walk f known firsts known 0 firsts
walk-begin f known firsts stand = record {
  stand = All-weaker (IsPair f known 0) (IsPair f known (length firsts)) (λ p s. is_pair-weaker f known 0 (length firsts) p (omega arith) s) firsts stand;
  rests = rests-begin (Agrees f known) (pair_size f known) firsts;
}

module _ (f : Meanings) (start : List (List Waiting)) (firsts : List Pair) (known : List (List Waiting)) (at : ℕ) (pairs : List Pair) (w : Walk f start firsts known at pairs) where
  stands-in : (p : Pair) → Contains pairs p → IsPair f known (length pairs) p
  stands-in p c = All-contains (IsPair f known (length pairs)) pairs p w.stand c

  pub walk-pair : (n : ℕ) (p : Pair) → slice_get pairs at ≡ Some p → length pairs ≤ n → IsPair f known n p
  walk-pair n p here le = is_pair-weaker f known (length pairs) n p le (stands-in p (contains-place pairs at p here))

  pub walk-end : length pairs ≤ at → All (Agrees f start) firsts
  walk-end le = All-from_each (Agrees f start) firsts (rests-end (Agrees f known) (pair_size f known) (Each (Agrees f start) firsts) at pairs le w.rests)

  pub walk-no : (p : Pair) → slice_get pairs at ≡ Some p → (Agrees f known p → ⊥) → All (Agrees f start) firsts → ⊥
  walk-no p here differ all = differ (w.rests.forth (λ q c. All-contains (Agrees f start) firsts q all c) p (contains-place pairs at p here))

  module _ (newer : List (List Waiting)) (new : List Pair) (p : Pair) (here : slice_get pairs at ≡ Some p) (grows : Grows known newer) (opens : Opens f newer p pairs new) (next : ℕ) (step : next ≡ suc at) where
    same : (q : Pair) → Contains pairs q → SamePair f known newer q
    same q c = same_pair f known newer (length pairs) q grows (stands-in q c)

    later : Rests (Agrees f newer) (pair_size f newer) (Each (Agrees f start) firsts) at pairs
    later = rests-same (Agrees f known) (Agrees f newer) (pair_size f known) (pair_size f newer) (Each (Agrees f start) firsts) at pairs (λ q c. let s = same q c in (s.forth, s.back, s.size_is)) w.rests

    more-stand : (((n : ℕ) → IsPair f known n p → All (IsPair f newer (suc n)) (drop (length pairs) new))) → All (IsPair f newer (length (pairs ++ opens.more))) opens.more
    more-stand stand k d lt =
        let l : length (pairs ++ opens.more) ≡ length pairs + length opens.more = length-append pairs opens.more in
        let one = stand (length pairs) (stands-in p (contains-place pairs at p here)) in
        let after : drop (length pairs) new ≡ opens.more = ap (drop (length pairs)) opens.grown ∙ drop-length pairs opens.more in
        is_pair-weaker f newer (suc (length pairs)) (length (pairs ++ opens.more)) (get_or opens.more k d) (omega arith) (All-same (IsPair f newer (suc (length pairs))) opens.more (drop (length pairs) new) (sym after) one k d lt)

    pub walk-next : ((n : ℕ) → IsPair f known n p → All (IsPair f newer (suc n)) (drop (length pairs) new)) → Walk f start firsts newer next new
    walk-next stand =
        let l : length (pairs ++ opens.more) ≡ length pairs + length opens.more = length-append pairs opens.more in
        rw (step, opens.grown) record {
          stand = All-append (IsPair f newer (length (pairs ++ opens.more))) pairs opens.more
              (All-weaker (IsPair f known (length pairs)) (IsPair f newer (length (pairs ++ opens.more))) (λ q s. is_pair-weaker f newer (length pairs) (length (pairs ++ opens.more)) q (omega arith) (is_pair-grows f known newer (length pairs) q grows s)) pairs w.stand)
              (more-stand stand);
          rests = rests-opened (Agrees f newer) (pair_size f newer) (Each (Agrees f start) firsts) at pairs opens.more p here
              (λ a q c. All-contains (Agrees f newer) opens.more q (opens.forth a) c)
              (λ smaller. opens.back (λ q c lt. smaller q (rw (← opens.grown) c) lt))
              later;
        }

    total-sum : (ps : List Pair) → total f newer ps ≡ sum_of (pair_size f newer) ps
    total-sum [] = refl
    total-sum (q ∷ ps) = ap (λ n. pair_size f newer q + n) (total-sum ps)

    sum-same : (ps : List Pair) → ((q : Pair) → Contains ps q → pair_size f known q ≡ pair_size f newer q) → sum_of (pair_size f known) ps ≡ sum_of (pair_size f newer) ps
    sum-same [] e = refl
    sum-same (q ∷ ps) e = ap₂ ◌+◌ (e q (0, omega arith, refl)) (sum-same ps (λ r c. e r (suc c.0, omega arith, c.2)))

    drop-within : (n : ℕ) (ps : List Pair) (q : Pair) → Contains (drop n ps) q → Contains ps q
    drop-within zero ps q c = c
    drop-within (suc n) [] q c = c
    drop-within (suc n) (r ∷ ps) q c = let h = drop-within n ps q c in (suc h.0, omega arith, h.2)

    pub walk-smaller : sum_of (pair_size f newer) (drop next new) < sum_of (pair_size f known) (drop at pairs)
    walk-smaller =
        let less = opens.less in
        let t = total-sum opens.more in
        let s = sum-same (drop at pairs) (λ q c. (same q (drop-within at pairs q c)).size_is) in
        let m = smaller-opened (pair_size f newer) pairs opens.more at p here (omega arith) in
        let e = ap₂ (λ n ps. sum_of (pair_size f newer) (drop n ps)) step opens.grown in
        omega arith
