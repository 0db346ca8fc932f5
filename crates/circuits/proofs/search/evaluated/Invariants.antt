use Rattle.circuits.specs.Evaluations.{IsEvaluated}
use Rattle.circuits.proofs.search.evaluated.Given as goal

abbrev pub invariant-loop-at : goal.invariant-loop-at
invariant-loop-at l = IsEvaluated l.gates l.known l.truths.items l.at
