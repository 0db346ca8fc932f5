use Rattle.std.proofs.Common.{◌≡◌, ◌≤◌, length}
use Rattle.region.specs.Slots.{marks_in, rows_in}
use Rattle.region.specs.Tables.{IsTable}
use Rattle.region.specs.Interned.{hashes}
use Rattle.region.proofs.interning.Region.release.Given as goal

-- the store stays, and the table is that of the first rows
abbrev pub invariant-back : goal.invariant-back
invariant-back l =
    (l.self-inside.store ≡ l.initial.self-inside.store) × (l.mark.0 ≤ l.len) × (l.len ≤ length l.initial.self-inside.store.rows) × (length (marks_in l.self-inside.table.slots.items) ≡ length (marks_in l.initial.self-inside.table.slots.items)) × IsTable (hashes l.initial.self-inside.store.rows) (marks_in l.self-inside.table.slots.items) (rows_in l.self-inside.table.slots.items) l.len

abbrev pub decreases-back : goal.decreases-back
decreases-back l = l.len
