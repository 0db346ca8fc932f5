use Rattle.std.proofs.Common.{◌≤◌}
use Rattle.circuits.specs.Circuits.{Labels, Obeys}
use Rattle.circuits.specs.Branches.{IsWithin, Fits, weight}
use Rattle.circuits.proofs.branch.Branch.fix_wanted.Given as goal

abbrev pub invariant-loop-wire : goal.invariant-loop-wire
invariant-loop-wire l = record {
  within : IsWithin l.gates l.self;
  fits : (w : Labels) → Obeys l.gates w → Fits w l.fn.self → Fits w l.self;
  no_more : weight l.self ≤ weight l.fn.self;
}

abbrev pub decreases-loop-wire : goal.decreases-loop-wire
decreases-loop-wire l = weight l.self
