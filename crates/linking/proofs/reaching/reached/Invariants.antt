use Rattle.std.proofs.Common.{length}
use Rattle.linking.proofs.ReachLaws.{Goes}
use Rattle.linking.proofs.reaching.reached.Given as goal

abbrev pub invariant-loop-is_wanted : goal.invariant-loop-is_wanted
invariant-loop-is_wanted l = Goes l.known l.fn.wanted.items l.wanted.items l.found.items

abbrev pub decreases-loop-is_wanted : goal.decreases-loop-is_wanted
decreases-loop-is_wanted l = length l.wanted.items
