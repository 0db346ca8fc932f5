use Rattle.std.proofs.Common.{length}
use Rattle.linking.proofs.ReachLaws.{Gathers}
use Rattle.linking.proofs.reaching.scope_of.Given as goal

abbrev pub invariant-loop-module : goal.invariant-loop-module
invariant-loop-module l = Gathers l.known l.imports l.found.items l.names

abbrev pub decreases-loop-module : goal.decreases-loop-module
decreases-loop-module l = length l.found.items
