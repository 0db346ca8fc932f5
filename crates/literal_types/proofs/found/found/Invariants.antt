use Rattle.std.proofs.Common.{◌+◌, reverse}
use Rattle.literal_types.specs.Openings.{weight}
use Rattle.literal_types.specs.Waits.{waiting_weight}
use Rattle.literal_types.proofs.WaitLaws.{Finding}
use Rattle.literal_types.proofs.found.found.Given as goal

abbrev pub invariant-loop-next : goal.invariant-loop-next
invariant-loop-next l = Finding l.book l.fn.ty (reverse l.fn.waiting.items) l.node (reverse l.waiting.items)

abbrev pub decreases-loop-next : goal.decreases-loop-next
decreases-loop-next l = weight l.node + waiting_weight (reverse l.waiting.items)
