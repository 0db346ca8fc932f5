use Rattle.book_writer.specs.Means.{lines_mean}
use Rattle.book_writer.proofs.PushLaws.{Left}
use Rattle.book_writer.proofs.makes.LinesMaker.then.Given as goal

abbrev pub invariant-loop-left : goal.invariant-loop-left
invariant-loop-left l = Left (lines_mean l.fn.self) (lines_mean l.self) l.trees.items l.left l.sub l.first l.second

abbrev pub decreases-loop-left : goal.decreases-loop-left
decreases-loop-left l = l.left
