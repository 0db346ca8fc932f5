use Rattle.std.proofs.Common.{◌≡◌, ◌+◌, Bool, List, None, get_or, sym, subst}
use Rattle.std.proofs.lemmas.Option.{slice_get-get_or}
use Rattle.circuits.specs.declared.gates.Gate.TheVariants as gate
use Rattle.circuits.specs.Evaluations.{labels_of, evaluated_gate, IsEvaluated}
use Rattle.circuits.proofs.EvaluateLaws.{evaluated_more}
use Rattle.circuits.proofs.search.evaluated.Goals as goal

pub loop-at-preserved : goal.loop-at-preserved
loop-at-preserved c =
    let gates = c.args.gates.now in
    let n = c.loop-at.at in
    let is : c.gate_truth-truth.result ≡ evaluated_gate (labels_of c.loop-at.truths.items) (get_or c.args.known.now n None) (get_or gates n gate.Top) = rw c.deref.ensures.value at c.gate_truth-truth.ensures in
    let P : List Bool → Type 0 = λ ts. IsEvaluated gates c.args.known.now ts (n + 1) in
    subst P (sym c.in_ok-push.ensures.items)
    (evaluated_more gates c.args.known.now c.loop-at.truths.items n (get_or gates n gate.Top) c.gate_truth-truth.result c.requires.ordered c.loop-at.invariant (slice_get-get_or gates n gate.Top c.loop-at-test.true) is)
