use Rattle.region.specs.Slots.{marks_in}
use Rattle.region.specs.Tables.{PassesTaken}
use Rattle.region.proofs.table.Table.first_free.Given as goal

abbrev pub invariant-loop-at : goal.invariant-loop-at
invariant-loop-at l = PassesTaken (marks_in l.self.slots.items) l.hash l.at
