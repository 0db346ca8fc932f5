-- The sizes of substitutions, as they are held.
use Rattle.std.proofs.Common.{◌≡◌, ◌⊎◌, inl, inr, ℕ, suc, ◌+◌, ◌-◌, ◌^◌, ◌<◌, ◌≤◌, min, IsTrue, ap, arith}
use Rattle.std.proofs.lemmas.Bool.{cases_lt}
use Rattle.std.proofs.lemmas.Bool.Decides.{nat_tests}
use Rattle.trees.specs.Trees.{greatest_shift}
use Rattle.rows.specs.Counts.{most_counted, least_counted, is_count_held}

-- the number that is held is the count, or both are large
abbrev pub IsCountHeld : ℕ → ℕ → ℕ → Type 0
IsCountHeld row count n = (count ≡ n) ⊎ ((least_counted row ≤ count) × (least_counted row ≤ n))

pub count_held-is : (row count n : ℕ) → IsTrue (is_count_held row count n) → IsCountHeld row count n
count_held-is row count n h = grind (arith, nat_tests)

pub is-count_held : (row count n : ℕ) → IsCountHeld row count n → IsTrue (is_count_held row count n)
is-count_held row count n (inl e) = grind (arith, nat_tests)
is-count_held row count n (inr b) = grind (arith, nat_tests)

-- a count that is cut at the bound
cut : (row count : ℕ) → IsCountHeld row count (min count most_counted)
cut row count = elim (cases_lt most_counted count) [
  | inl more ↦ inr (omega arith, omega arith)
  | inr all ↦ inl (omega arith)
]

-- one more tree
pub count_held-push : (row new count n : ℕ) → row < new → IsCountHeld row count n → IsCountHeld new (suc count) (min (n + 1) most_counted)
count_held-push row new count n lt (inl e) =
    let same : suc count ≡ n + 1 = omega arith in
    rw (← same) (cut new (suc count))
count_held-push row new count n lt (inr b) = inr (omega (arith, b.0), omega (arith, b.1))

-- these trees, and those that a shift leaves of others
pub count_held-then : (i j new count n others m shift : ℕ) → i < new → j < new → shift ≤ greatest_shift → IsCountHeld i count n → IsCountHeld j others m → IsCountHeld new (count + (others - shift)) (min (n + (m - shift)) most_counted)
count_held-then i j new count n others m shift li lj small (inl e) (inl f) =
    let same : count + (others - shift) ≡ n + (m - shift) = omega arith in
    rw (← same) (cut new (count + (others - shift)))
count_held-then i j new count n others m shift li lj small (inr b) h = inr (omega (arith, b.0), omega (arith, b.1))
count_held-then i j new count n others m shift li lj small (inl e) (inr b) = inr (omega (arith, b.0), omega (arith, b.1))

-- what a shift has left past the trees
pub past-held : (row count n shift : ℕ) → row < 2 ^ 64 → shift ≤ greatest_shift → IsCountHeld row count n → shift - count ≡ shift - n
past-held row count n shift few small (inl e) = ap (λ m. shift - m) e
past-held row count n shift few small (inr b) = omega (arith, b.0, b.1)

-- below 2^64 the number is the count, and from there on the count is there too
pub count-told : (row count n : ℕ) → row < 2 ^ 64 → n < 2 ^ 64 → IsCountHeld row count n → count ≡ n
count-told row count n few lt (inl e) = e
count-told row count n few lt (inr b) = absurd (omega (arith, b.1))

pub count-large : (row count n : ℕ) → row < 2 ^ 64 → 2 ^ 64 ≤ n → IsCountHeld row count n → 2 ^ 64 ≤ count
count-large row count n few le (inl e) = omega arith
count-large row count n few le (inr b) = omega (arith, b.0)
