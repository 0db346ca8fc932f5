use Rattle.region.specs.Slots.{marks_in, rows_in}
use Rattle.region.proofs.RegionLaws.{PassesRows}
use Rattle.region.proofs.interning.search.Given as goal

abbrev pub invariant-loop-at : goal.invariant-loop-at
invariant-loop-at l = PassesRows l.store.rows (marks_in l.table.slots.items) (rows_in l.table.slots.items) l.row l.at
