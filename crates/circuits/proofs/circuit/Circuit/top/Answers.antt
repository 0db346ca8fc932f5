use Rattle.circuits.proofs.PlaceLaws.{top_truth}
use Rattle.circuits.proofs.circuit.Circuit.top.Goals as goal

pub returns-clause-truth : goal.returns-clause-truth
returns-clause-truth c = top_truth c.place.new.self.gates.items c.in_ok-place.field-0 c.in_ok-place.ensures.placed
