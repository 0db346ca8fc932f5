use Rattle.std.proofs.Common.{◌<◌, ◌≤◌, length, min, slice_set, true, sym, ◌∙◌, ap, arith}
use Rattle.linking.proofs.ReachLaws.{either_none, want_more, want_less, want_all}
use Rattle.linking.proofs.reaching.want.Goals as goal
use Rattle.linking.proofs.reaching.want.Goals.{then-imports-at, else-imports-at}

pub loop-at-init : goal.loop-at-init
loop-at-init c = sym (either_none c.args.wanted.now)

pub loop-at-preserved : goal.loop-at-preserved
loop-at-preserved c =
    let here : c.loop-at.at < length c.args.imports.now = omega (arith, c.loop-at-test.true, c.min-at-end.ensures) in
    let there : c.loop-at.at < length c.args.wanted.now = omega (arith, c.loop-at-test.true, c.min-at-end.ensures) in
    elim c.if-imports-at.branch [
      | then-imports-at w ↦ w.wanted-is ∙ ap (λ ws. slice_set ws c.loop-at.at true) c.loop-at.invariant ∙ want_more c.args.wanted.now c.args.imports.now c.loop-at.at _ here there w.if-imports-at.true
      | else-imports-at w ↦ w.wanted-is ∙ c.loop-at.invariant ∙ want_less c.args.wanted.now c.args.imports.now c.loop-at.at _ here w.if-imports-at.false
    ]

pub returns : goal.returns
returns c =
    let all : min (length c.args.imports.now) (length c.args.wanted.now) ≤ c.loop-at.at = omega (arith, c.loop-at-test.false, c.min-at-end.ensures) in
    c.loop-at.invariant ∙ want_all c.args.wanted.now c.args.imports.now c.loop-at.at all
