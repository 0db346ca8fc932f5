use Rattle.std.proofs.Common.{◌≤◌}
use Rattle.evaluate.specs.Waiting.{total}
use Rattle.evaluate.proofs.look.looked_up.Given as goal

abbrev pub invariant-loop-next : goal.invariant-loop-next
invariant-loop-next l = total l.waiting.items ≤ total l.fn.waiting.items

abbrev pub decreases-loop-next : goal.decreases-loop-next
decreases-loop-next l = total l.waiting.items
