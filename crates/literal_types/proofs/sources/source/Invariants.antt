use Rattle.std.proofs.Common.{length, reverse}
use Rattle.literal_types.proofs.JoinLaws.{Sourcing}
use Rattle.literal_types.proofs.sources.source.Given as goal

abbrev pub invariant-loop-entry : goal.invariant-loop-entry
invariant-loop-entry l = Sourcing l.fn.book l.book l.fn.sub l.ctx (reverse l.entries.items)

abbrev pub decreases-loop-entry : goal.decreases-loop-entry
decreases-loop-entry l = length l.entries.items
