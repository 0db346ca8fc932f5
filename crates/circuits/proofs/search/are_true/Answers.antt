use Rattle.std.proofs.Common.{IsTrue, refl, sym, ◌∙◌, take}
use Rattle.std.proofs.lemmas.List.{take_all}
use Rattle.std.proofs.lemmas.List.Elements.{All-more, All-same}
use Rattle.circuits.specs.declared.gates.Wire.{Wire}
use Rattle.circuits.specs.Circuits.{wire_truth}
use Rattle.circuits.specs.Evaluations.{labels_of}
use Rattle.circuits.proofs.search.are_true.Goals as goal

pub loop-wire-preserved : goal.loop-wire-preserved
loop-wire-preserved c =
    let P : Wire → Type 0 = λ x. IsTrue (wire_truth (labels_of c.args.truths.now) x) in
    All-more P c.args.wires.now c.loop-wire.wire-index _ c.loop-wire-test.true c.loop-wire.invariant (sym c.truth_of.ensures ∙ c.if-not-truth_of.false)

pub returns : goal.returns
returns c =
    let P : Wire → Type 0 = λ x. IsTrue (wire_truth (labels_of c.args.truths.now) x) in (
      λ _. All-same P c.args.wires.now (take c.loop-wire.wire-index c.args.wires.now) (sym (take_all c.loop-wire.wire-index c.args.wires.now c.loop-wire-test.false)) c.loop-wire.invariant,
      λ _. refl,
    )
