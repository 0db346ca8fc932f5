-- What shifts and indices grow to.
use Rattle.std.proofs.Common.{◌≡◌, ℕ, zero, suc, ◌+◌, ◌-◌, ◌*◌, ◌^◌, ◌<◌, ◌≤◌, List, [], ◌∷◌, length, arith}
use Rattle.std.specs.List.{All}
use Rattle.trees.specs.Trees.{Trees, NoTrees, More, Subst, without, then_from, then}
use Rattle.trees.specs.Trees.{count_of}
use Rattle.trees.specs.Trees.{greatest_shift}
use Rattle.substitution.specs.Shifts.{then_all}

shift-without : (n : ℕ) (p : Trees) (s : ℕ) → (without n p s).shift ≡ s + (n - count_of p)
shift-without n NoTrees s = omega arith
shift-without zero (More t rest) s = omega arith
shift-without (suc n) (More t rest) s = let e = shift-without n rest s in omega arith

count_of-without : (n : ℕ) (p : Trees) (s : ℕ) → count_of (without n p s).pushed ≡ count_of p - n
count_of-without n NoTrees s = omega arith
count_of-without zero (More t rest) s = omega arith
count_of-without (suc n) (More t rest) s = let e = count_of-without n rest s in omega arith

shift-then_from : (p : Trees) (s : ℕ) (e : Subst) → (then_from p s e).shift ≡ e.shift + (s - count_of e.pushed)
shift-then_from NoTrees s e = shift-without s e.pushed e.shift
shift-then_from (More a rest) s e = shift-then_from rest s e

pub shift-then : (d e : Subst) → (then d e).shift ≡ e.shift + (d.shift - count_of e.pushed)
shift-then d e = shift-then_from d.pushed d.shift e

count_of-then_from : (p : Trees) (s : ℕ) (e : Subst) → count_of (then_from p s e).pushed ≡ count_of p + (count_of e.pushed - s)
count_of-then_from NoTrees s e = let h = count_of-without s e.pushed e.shift in omega arith
count_of-then_from (More a rest) s e = let h = count_of-then_from rest s e in omega arith

pub count_of-then : (d e : Subst) → count_of (then d e).pushed ≡ count_of d.pushed + (count_of e.pushed - d.shift)
count_of-then d e = count_of-then_from d.pushed d.shift e

pub shift-then-bound : (d e : Subst) → (then d e).shift ≤ d.shift + e.shift
shift-then-bound d e = let h = shift-then d e in omega arith

-- the shift of one `then` fits 64 bits
pub shift-then-fits : (d e : Subst) → d.shift ≤ greatest_shift → e.shift ≤ greatest_shift → (then d e).shift ≤ 2 ^ 63
shift-then-fits d e hd he = let h = shift-then-bound d e in omega arith

pub shift-then_all-bound : (b : ℕ) (ds : List Subst) → All (λ d. d.shift ≤ b) ds → (then_all ds).shift ≤ length ds * b
shift-then_all-bound b [] all = omega arith
shift-then_all-bound b (d ∷ ds) all =
    let rest = shift-then_all-bound b ds (λ k e lt. all (suc k) e (omega arith)) in
    let first : d.shift ≤ b = all 0 d (omega arith) in
    let step = shift-then-bound d (then_all ds) in
    let whole : suc (length ds) * b ≡ b + length ds * b = grind arith in
    omega arith

-- an index of 32 bits under fewer than 2^64 substitutions fits 128 bits
pub index-then_all-fits : (ds : List Subst) (k : ℕ) → All (λ d. d.shift ≤ greatest_shift) ds → length ds < 2 ^ 64 → k < 2 ^ 32 → k + (then_all ds).shift < 2 ^ 128
index-then_all-fits ds k all few small =
    let h = shift-then_all-bound greatest_shift ds all in omega arith

-- A walk through delayed substitutions goes on at `k - trees + shift` past an entry. After n of them, and fewer than
-- 2 ^ 64 are met, an index of 32 bits fits 128 bits.

pub index-step : (k n trees shift : ℕ) → k ≤ 2 ^ 32 + n * greatest_shift → shift ≤ greatest_shift → k - trees + shift ≤ 2 ^ 32 + (n + 1) * greatest_shift
index-step k n trees shift hk hs = omega arith

pub index-fits : (k n : ℕ) → k ≤ 2 ^ 32 + n * greatest_shift → n < 2 ^ 64 → k < 2 ^ 128
index-fits k n hk hn = omega arith
