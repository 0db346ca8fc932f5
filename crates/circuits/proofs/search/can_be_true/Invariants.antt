use Rattle.std.specs.List.{All, Any}
use Rattle.circuits.specs.Circuits.{Labels, Obeys, AreTrue}
use Rattle.circuits.specs.Branches.{IsWithin, Fits, work}
use Rattle.circuits.proofs.search.can_be_true.Given as goal

-- what makes the wires true fits one of the branches
abbrev pub invariant-loop-branch : goal.invariant-loop-branch
invariant-loop-branch l = record {
  within : All (IsWithin l.gates) l.branches.items;
  covers : (w : Labels) → Obeys l.gates w → AreTrue w l.goals → Any (Fits w) l.branches.items;
}

abbrev pub decreases-loop-branch : goal.decreases-loop-branch
decreases-loop-branch l = work l.branches.items
