use Rattle.std.proofs.Common.{◌<◌, length}
use Rattle.circuits.proofs.branch.highest.Given as goal

abbrev pub invariant-loop-at : goal.invariant-loop-at
invariant-loop-at l = l.best < length l.gates
