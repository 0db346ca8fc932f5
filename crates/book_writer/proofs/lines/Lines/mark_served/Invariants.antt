use Rattle.book_writer.proofs.MarksLaws.{Marking}
use Rattle.book_writer.proofs.lines.Lines.mark_served.Given as goal

abbrev pub invariant-loop-left : goal.invariant-loop-left
invariant-loop-left l = Marking l.self l.roots l.left l.marks

abbrev pub decreases-loop-left : goal.decreases-loop-left
decreases-loop-left l = l.left
