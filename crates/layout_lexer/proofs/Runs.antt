-- Runs of items that pass a test.
use Rattle.std.proofs.Common.{◌≡◌, ℕ, zero, suc, ◌+◌, ◌<◌, ◌≤◌, Bool, true, false, cond, ◌&&◌, List, [], ◌∷◌, length, take, refl, arith}
use Rattle.std.specs.List.{list_all, prefix_len}

-- the items of a run pass
pub list_all-within : {X : Type 0} (p : X → Bool) (xs : List X) (k : ℕ) → k ≤ prefix_len p xs → list_all p (take k xs) ≡ true
list_all-within p xs zero h = refl
list_all-within p [] (suc k) h = refl
list_all-within p (x ∷ xs) (suc k) h = by (p x) (list_all-within p xs k) h
  where
    by : (b : Bool) → (k ≤ prefix_len p xs → list_all p (take k xs) ≡ true) → suc k ≤ cond b (1 + prefix_len p xs) 0 → (b && list_all p (take k xs)) ≡ true
    by true rest h = rest (omega arith)
    by false rest h = absurd (omega arith)

-- and a longer prefix has an item that doesn't
pub list_all-beyond : {X : Type 0} (p : X → Bool) (xs : List X) (k : ℕ) → prefix_len p xs < k → k ≤ length xs → list_all p (take k xs) ≡ false
list_all-beyond p xs zero h l = absurd (omega arith)
list_all-beyond p [] (suc k) h l = absurd (omega arith)
list_all-beyond p (x ∷ xs) (suc k) h l = by (p x) (list_all-beyond p xs k) h
  where
    by : (b : Bool) → (prefix_len p xs < k → k ≤ length xs → list_all p (take k xs) ≡ false) → cond b (1 + prefix_len p xs) 0 < suc k → (b && list_all p (take k xs)) ≡ false
    by true rest h = rest (omega arith) (omega (arith, l))
    by false rest h = refl

pub prefix_len-le : {X : Type 0} (p : X → Bool) (xs : List X) → prefix_len p xs ≤ length xs
prefix_len-le p [] = omega arith
prefix_len-le p (x ∷ xs) = by (p x) (prefix_len-le p xs)
  where
    by : (b : Bool) → prefix_len p xs ≤ length xs → cond b (1 + prefix_len p xs) 0 ≤ suc (length xs)
    by true rest = omega arith
    by false rest = omega arith
