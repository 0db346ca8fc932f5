use Rattle.std.proofs.Common.{reverse}
use Rattle.literal_types.specs.Waits.{waiting_weight}
use Rattle.literal_types.proofs.WaitLaws.{Looking}
use Rattle.literal_types.proofs.waiting.looked_up.Given as goal

abbrev pub invariant-loop-next : goal.invariant-loop-next
invariant-loop-next l = Looking l.book (reverse l.fn.waiting.items) l.index (reverse l.waiting.items)

abbrev pub decreases-loop-next : goal.decreases-loop-next
decreases-loop-next l = waiting_weight (reverse l.waiting.items)
