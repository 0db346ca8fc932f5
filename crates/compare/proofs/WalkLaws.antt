-- What is left of a walk over pairs that stand once each, whatever pairs are and when they agree.
use Rattle.std.proofs.Common.{◌≡◌, ℕ, zero, suc, ◌+◌, ◌<◌, ◌≤◌, inl, inr, List, [], ◌∷◌, ◌++◌, length, take, drop, get_or, refl, ap, arith, Some}
use Rattle.std.specs.Prelude.{slice_get}
use Rattle.std.specs.List.{All, Contains}
use Rattle.std.proofs.lemmas.List.{take_all}
use Rattle.std.proofs.lemmas.List.Elements.{Contains-get_or, Contains-append_left, Contains-append_cases}

module _ {P : Type 0} where
  abbrev pub Each : (P → Type 0) → List P → Type 0
  Each good pairs = (p : P) → Contains pairs p → good p

  pub All-from_each : (good : P → Type 0) (pairs : List P) → Each good pairs → All good pairs
  All-from_each good pairs each k d lt = each (get_or pairs k d) (Contains-get_or pairs k d lt)

  -- a pair agrees where all smaller ones that stand do
  abbrev pub Justified : (P → Type 0) → (P → ℕ) → List P → P → Type 0
  Justified good size pairs p = ((q : P) → Contains pairs q → size q < size p → good q) → good p

  justified_upto : (good : P → Type 0) (size : P → ℕ) (pairs : List P) → Each (Justified good size pairs) pairs → (n : ℕ) (p : P) → Contains pairs p → size p < n → good p
  justified_upto good size pairs just zero p c lt = absurd (omega arith)
  justified_upto good size pairs just (suc n) p c lt = just p c (λ q d less. justified_upto good size pairs just n q d (omega arith))

  -- so all agree that stand
  pub each_justified : (good : P → Type 0) (size : P → ℕ) (pairs : List P) → Each (Justified good size pairs) pairs → Each good pairs
  each_justified good size pairs just p c = justified_upto good size pairs just (suc (size p)) p c (omega arith)

  -- the first pairs are justified, and all agree exactly where the goal holds
  pub record Rests (good : P → Type 0) (size : P → ℕ) (goal : Type 0) (at : ℕ) (pairs : List P) : Type 0 where
    pub forth : goal → Each good pairs
    pub back : Each good pairs → goal
    pub done : Each (Justified good size pairs) (take at pairs)

  pub rests-begin : (good : P → Type 0) (size : P → ℕ) (pairs : List P) → Rests good size (Each good pairs) 0 pairs
  rests-begin good size pairs = record { forth = λ e. e; back = λ e. e; done = λ p c. absurd (omega arith) }

  pub rests-end : (good : P → Type 0) (size : P → ℕ) (goal : Type 0) (at : ℕ) (pairs : List P) → length pairs ≤ at → Rests good size goal at pairs → goal
  rests-end good size goal at pairs le r =
      r.back (each_justified good size pairs (λ p c. r.done p (rw (take_all at pairs le) c)))

  -- the pair at a place stands in the list
  pub contains-place : (pairs : List P) (at : ℕ) (p : P) → slice_get pairs at ≡ Some p → Contains pairs p
  contains-place [] at p e = cc
  contains-place (q ∷ qs) zero p e = let s : q ≡ p = cc in rw s (0, omega arith, refl)
  contains-place (q ∷ qs) (suc at) p e = let h = contains-place qs at p e in (suc h.0, omega arith, h.2)

  take-place : (pairs more : List P) (at : ℕ) (p : P) → slice_get pairs at ≡ Some p → take (suc at) (pairs ++ more) ≡ take at pairs ++ p ∷ []
  take-place [] more at p e = cc
  take-place (q ∷ qs) more zero p e = let s : q ≡ p = cc in rw s refl
  take-place (q ∷ qs) more (suc at) p e = ap (λ zs. q ∷ zs) (take-place qs more at p e)

  take-within : (pairs : List P) (at : ℕ) (q : P) → Contains (take at pairs) q → Contains pairs q
  take-within [] zero q c = c
  take-within [] (suc at) q c = c
  take-within (p ∷ ps) zero q c = absurd (omega arith)
  take-within (p ∷ ps) (suc at) q (zero, lt, e) = (zero, omega arith, e)
  take-within (p ∷ ps) (suc at) q (suc k, lt, e) = let h = take-within ps at q (k, omega arith, e) in (suc h.0, omega arith, h.2)

  justified-more : (good : P → Type 0) (size : P → ℕ) (pairs more : List P) (p : P) → Justified good size pairs p → Justified good size (pairs ++ more) p
  justified-more good size pairs more p just = λ smaller. just (λ q c lt. smaller q (Contains-append_left pairs more q c) lt)

  -- after a pair was opened
  pub rests-opened : (good : P → Type 0) (size : P → ℕ) (goal : Type 0) (at : ℕ) (pairs more : List P) (p : P) → slice_get pairs at ≡ Some p → (good p → Each good more) → Justified good size (pairs ++ more) p → Rests good size goal at pairs → Rests good size goal (suc at) (pairs ++ more)
  rests-opened good size goal at pairs more p here forth just r = record {
    forth = λ g q c. elim (Contains-append_cases pairs more q c) [
      | inl old ↦ r.forth g q old
      | inr new ↦ forth (r.forth g p (contains-place pairs at p here)) q new
    ];
    back = λ all. r.back (λ q c. all q (Contains-append_left pairs more q c));
    done = λ q c. elim (Contains-append_cases (take at pairs) (p ∷ []) q (rw (← take-place pairs more at p here) c)) [
      | inl old ↦ justified-more good size pairs more q (r.done q old)
      | inr new ↦ last q new
    ];
  }
    where
      last : (q : P) → Contains (p ∷ []) q → Justified good size (pairs ++ more) q
      last q (zero, lt, e) = let s : p ≡ q = e in rw (← s) just
      last q (suc k, lt, e) = absurd (omega arith)

  -- the same where pairs agree in other words, and have another size
  pub rests-same : (good other : P → Type 0) (size sized : P → ℕ) (goal : Type 0) (at : ℕ) (pairs : List P) → ((p : P) → Contains pairs p → (good p → other p) × (other p → good p) × (size p ≡ sized p)) → Rests good size goal at pairs → Rests other sized goal at pairs
  rests-same good other size sized goal at pairs same r = record {
    forth = λ g p c. (same p c).0 (r.forth g p c);
    back = λ all. r.back (λ p c. (same p c).1 (all p c));
    done = λ p c smaller.
        let d = take-within pairs at p c in
        let e = (same p d).2 in
        (same p d).0 (r.done p c (λ q b lt. (same q b).1 (smaller q b (let h = (same q b).2 in omega arith))));
  }

  -- what is left to open
  abbrev pub sum_of : (P → ℕ) → List P → ℕ
  sum_of size [] = 0
  sum_of size (p ∷ ps) = size p + sum_of size ps

  pub sum_of-append : (size : P → ℕ) (ps qs : List P) → sum_of size (ps ++ qs) ≡ sum_of size ps + sum_of size qs
  sum_of-append size [] qs = omega arith
  sum_of-append size (p ∷ ps) qs = let h = sum_of-append size ps qs in omega arith

  drop-place : (pairs more : List P) (at : ℕ) (p : P) → slice_get pairs at ≡ Some p → (drop at pairs ≡ p ∷ drop (suc at) pairs) × (drop (suc at) (pairs ++ more) ≡ drop (suc at) pairs ++ more)
  drop-place [] more at p e = cc
  drop-place (q ∷ qs) more zero p e = let s : q ≡ p = cc in rw s (refl, refl)
  drop-place (q ∷ qs) more (suc at) p e = drop-place qs more at p e

  pub smaller-opened : (size : P → ℕ) (pairs more : List P) (at : ℕ) (p : P) → slice_get pairs at ≡ Some p → sum_of size more < size p → sum_of size (drop (suc at) (pairs ++ more)) < sum_of size (drop at pairs)
  smaller-opened size pairs more at p here less =
      let d = drop-place pairs more at p here in
      let a = sum_of-append size (drop (suc at) pairs) more in
      rw (d.0, d.1, a) (omega arith)
