use Rattle.std.proofs.Common.{◌≡◌, length}
use Rattle.region.specs.Slots.{marks_in, rows_in}
use Rattle.region.specs.Tables.{IsTable}
use Rattle.region.specs.Interned.{hashes}
use Rattle.region.proofs.interning.larger_table.Given as goal

abbrev pub invariant-loop-id : goal.invariant-loop-id
invariant-loop-id l =
    (length (marks_in l.table.slots.items) ≡ l.size) × IsTable (hashes l.store.rows) (marks_in l.table.slots.items) (rows_in l.table.slots.items) l.id
