use Rattle.book_writer.proofs.NeededLaws.{MarkingNodes}
use Rattle.book_writer.proofs.needed.mark_nodes.Given as goal

abbrev pub invariant-loop-left : goal.invariant-loop-left
invariant-loop-left l = MarkingNodes l.book l.initial.rows l.initial.nodes l.left l.rows l.nodes

abbrev pub decreases-loop-left : goal.decreases-loop-left
decreases-loop-left l = l.left
