use Rattle.std.proofs.Common.{take}
use Rattle.book_writer.specs.Served.{Marks}
use Rattle.book_writer.proofs.marks.mark_all.Given as goal

abbrev pub invariant-loop-row : goal.invariant-loop-row
invariant-loop-row l = Marks l.initial.marks (take l.row-index l.rows) l.marks
