use Rattle.std.proofs.Common.{take}
use Rattle.circuits.specs.Circuits.{AreTrue}
use Rattle.circuits.specs.Evaluations.{labels_of}
use Rattle.circuits.proofs.search.are_true.Given as goal

abbrev pub invariant-loop-wire : goal.invariant-loop-wire
invariant-loop-wire l = AreTrue (labels_of l.truths) (take l.wire-index l.wires)
