use Rattle.book_writer.proofs.NeededLaws.{MarkingRows}
use Rattle.book_writer.proofs.needed.mark_rows.Given as goal

abbrev pub invariant-loop-left : goal.invariant-loop-left
invariant-loop-left l = MarkingRows l.book l.initial.rows l.left l.rows

abbrev pub decreases-loop-left : goal.decreases-loop-left
decreases-loop-left l = l.left
