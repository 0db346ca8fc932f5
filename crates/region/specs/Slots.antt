-- Slots of a table, as the list of their marks and that of the rows that they name.
use Rattle.std.specs.Prelude.{ℕ, ◌+◌, ◌*◌, ◌^◌, ◌≤◌, List, length, map}
use Rattle.region.specs.declared.table.Slot.{Slot}

-- the number of the row
abbrev pub row_of : Slot → ℕ
row_of s = s.high * 2 ^ 32 + s.low

abbrev pub marks_in : List Slot → List ℕ
marks_in slots = map (λ s. s.mark) slots

abbrev pub rows_in : List Slot → List ℕ
rows_in slots = map row_of slots

-- from 4 to 2 ^ 48 slots
pub record IsSized (slots : List Slot) : Type 0 where
  pub least : 4 ≤ length slots
  pub most : length slots ≤ 2 ^ 48
