use Rattle.region.specs.Slots.{marks_in, rows_in}
use Rattle.region.proofs.TableLaws.{PassesOthers}
use Rattle.region.proofs.table.Table.slot_of.Given as goal

abbrev pub invariant-loop-at : goal.invariant-loop-at
invariant-loop-at l = PassesOthers (marks_in l.self.slots.items) (rows_in l.self.slots.items) l.hash l.row l.at
