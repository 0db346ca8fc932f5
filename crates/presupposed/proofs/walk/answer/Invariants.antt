use Rattle.presupposed.specs.Walks.{to_do}
use Rattle.presupposed.proofs.LoopLaws.{Going}
use Rattle.presupposed.proofs.walk.answer.Given as goal

abbrev pub invariant-loop-task : goal.invariant-loop-task
invariant-loop-task l = Going l.initial.book l.book l.search l.fn.question

abbrev pub decreases-loop-task : goal.decreases-loop-task
decreases-loop-task l = to_do l.search
