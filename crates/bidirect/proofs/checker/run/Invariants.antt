use Rattle.typing_tasks.specs.Weights.{weights}
use Rattle.bidirect.proofs.LoopLaws.{Doing}
use Rattle.bidirect.proofs.checker.run.Given as goal

-- what is left makes of the state what all of it makes
abbrev pub invariant-loop-task : goal.invariant-loop-task
invariant-loop-task l = Doing l.initial.book l.book l.initial.state l.state l.initial.tasks l.tasks

abbrev pub decreases-loop-task : goal.decreases-loop-task
decreases-loop-task l = weights l.tasks.items.items
