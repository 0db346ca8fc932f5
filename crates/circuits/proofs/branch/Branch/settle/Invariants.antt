use Rattle.std.proofs.Common.{◌≤◌}
use Rattle.circuits.specs.Circuits.{Labels, Obeys}
use Rattle.circuits.specs.Branches.{IsWithin, Fits, weight}
use Rattle.circuits.proofs.branch.Branch.settle.Given as goal

abbrev pub invariant-loop-self : goal.invariant-loop-self
invariant-loop-self l = record {
  within : IsWithin l.gates l.self;
  fits : (w : Labels) → Obeys l.gates w → Fits w l.fn.self → Fits w l.self;
  no_more : weight l.self ≤ weight l.fn.self;
}

abbrev pub decreases-loop-self : goal.decreases-loop-self
decreases-loop-self l = weight l.self
