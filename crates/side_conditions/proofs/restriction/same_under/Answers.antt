use Rattle.std.proofs.Common.{refl, ◌∙◌, subst}
use Rattle.std.proofs.lemmas.List.{take_all}
use Rattle.side_conditions.specs.Restricted.{SameWithin}
use Rattle.side_conditions.proofs.SameLaws.{within_more}
use Rattle.side_conditions.proofs.restriction.same_under.Goals as goal

pub loop-conj-preserved : goal.loop-conj-preserved
loop-conj-preserved c =
    within_more c.parts-conj-items.result.now c.loop-conj.conj-index c.conj-item.result c.args.left.now c.args.right.now c.loop-conj-test.true c.conj-item.is c.loop-conj.invariant (c.in_ok-same_at.ensures.0 c.if-not-branch.false)

pub returns : goal.returns
returns c = (
  λ h.
      let whole = take_all c.loop-conj.conj-index c.parts-conj-items.result.now c.loop-conj-test.false in
      subst (λ face. SameWithin face c.args.left.now c.args.right.now) (whole ∙ c.parts-conj-items.ensures.value) c.loop-conj.invariant,
  λ all. refl,
)
