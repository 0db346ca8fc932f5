use Rattle.circuits.proofs.PlaceLaws.{both_truth}
use Rattle.circuits.proofs.circuit.Circuit.both.Goals as goal

pub returns-clause-truth : goal.returns-clause-truth
returns-clause-truth c = both_truth c.place.new.self.gates.items c.in_ok-place.field-0 c.args.left c.args.right c.in_ok-place.ensures.placed
