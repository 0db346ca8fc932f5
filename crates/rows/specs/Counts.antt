-- How pushed trees are counted, though there may be more of them than any number in memory tells.
use Rattle.std.specs.Prelude.{ℕ, ◌-◌, ◌*◌, ◌^◌, ◌==◌, ◌||◌, ◌&&◌, nat_le, Bool}
use Rattle.trees.specs.Trees.{greatest_shift}

-- trees are counted up to this number
abbrev pub most_counted : ℕ
most_counted = 2 ^ 127 - 1

-- A count that reached the bound may come down again, by one shift for each row: up to this row it
-- stays above this number.
abbrev pub least_counted : ℕ → ℕ
least_counted row = most_counted - greatest_shift * row

-- at this row the number that is held is the count, or both are large
abbrev pub is_count_held : ℕ → ℕ → ℕ → Bool
is_count_held row count held =
    (count == held) || (nat_le (least_counted row) count && nat_le (least_counted row) held)
