use Rattle.std.proofs.Common.{◌≡◌, ◌++◌, List, reverse, length}
use Rattle.typing_tasks.specs.declared.tasks.Task.{Task}
use Rattle.typing_tasks.proofs.tasks.Tasks.plan.Given as goal

abbrev pub invariant-loop-left : goal.invariant-loop-left
invariant-loop-left l =
    (done : List Task) × (l.tasks ≡ l.left ++ done) × (l.self.items.items ≡ l.initial.self.items.items ++ reverse done)

abbrev pub decreases-loop-left : goal.decreases-loop-left
decreases-loop-left l = length l.left
