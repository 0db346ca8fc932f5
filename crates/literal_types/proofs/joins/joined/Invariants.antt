use Rattle.std.proofs.Common.{length, reverse}
use Rattle.literal_types.proofs.JoinLaws.{Joining}
use Rattle.literal_types.proofs.joins.joined.Given as goal

abbrev pub invariant-loop-next : goal.invariant-loop-next
invariant-loop-next l = Joining l.fn.book l.book l.fn.from (reverse l.fn.waiting.items) l.sub (reverse l.waiting.items)

abbrev pub decreases-loop-next : goal.decreases-loop-next
decreases-loop-next l = length l.waiting.items
