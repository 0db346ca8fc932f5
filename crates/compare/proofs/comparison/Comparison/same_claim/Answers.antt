use Rattle.std.proofs.Common.{◌≡◌, ◌∙◌, refl, sym, arith, rules}
use denote.Enum.Bare.{same_true, same_false}
use Rattle.trees.specs.contracts.claim.JudgementForm.{the_type}
use Rattle.trees.specs.Claimed.{claimed}
use Rattle.closures.specs.Shown.{lists}
use Rattle.compare.proofs.OpenLaws.{not_true, not_false}
use Rattle.compare.proofs.AskLaws.{asks-decides}
use Rattle.compare.proofs.ClaimLaws.{other-forms}
use Rattle.compare.proofs.ClaimAskLaws.{claims-begin, claims-stand, claims-end, claims-no, claims-next, in-left, in-right, small, left-kind, right-kind}
use Rattle.compare.proofs.comparison.Comparison.same_claim.Goals as goal

pub returns-then-ne : goal.returns-then-ne
returns-then-ne g c =
    let other = same_false the_type c.form.result c.form-2.result (not_true _ c.if-ne.ensures) in
    (λ no. cc, λ e. absurd (other-forms (g.R.Rows.means c.args.rows.now) c.args.left c.args.right (λ same. other (c.form.ensures ∙ same ∙ sym c.form-2.ensures)) c.requires.left c.requires.right e))

pub loop-at-init : goal.loop-at-init
loop-at-init g c =
    let same = same_true the_type (search rules) c.form.result c.form-2.result (not_false _ c.if-ne.ensures) in
    claims-begin (g.R.Rows.means c.args.rows.now) (lists c.clear.new.self.environments) c.args.left c.args.right c.form-3.result c.kinds-kind-items.result.now c.clear.new.self.pairs.keys
    c.kinds-kind-items.ensures c.form-3.ensures (sym c.form.ensures ∙ same ∙ c.form-2.ensures) c.requires.left c.requires.right c.clear.ensures

pub offset_bounds-as_slice-at : goal.offset_bounds-as_slice-at
offset_bounds-as_slice-at g c = let l = small c.loop-at.invariant c.loop-at-test.true in omega arith

pub offset_bounds-as_slice-at-in-loop-at : goal.offset_bounds-as_slice-at-in-loop-at
offset_bounds-as_slice-at-in-loop-at g c = let l = small c.loop-at.invariant c.loop-at-test.true in omega arith

pub bounds-as_slice-at : goal.bounds-as_slice-at
bounds-as_slice-at g c = in-left c.loop-at.invariant c.loop-at-test.true c.as_slice.result.now (c.as_slice.ensures ∙ c.rows-lefts.ensures)

pub bounds-as_slice-at-in-loop-at : goal.bounds-as_slice-at-in-loop-at
bounds-as_slice-at-in-loop-at g c = in-right c.loop-at.invariant c.loop-at-test.true c.as_slice-in-loop-at.result.now (c.as_slice-in-loop-at.ensures ∙ c.rows-rights.ensures)

pub ask-requires-clause-left : goal.ask-requires-clause-left
ask-requires-clause-left g c = left-kind c.loop-at.invariant c.loop-at-test.true _ c.as_slice.result.now (c.as_slice.ensures ∙ c.rows-lefts.ensures)

pub ask-requires-clause-right : goal.ask-requires-clause-right
ask-requires-clause-right g c = right-kind c.loop-at.invariant c.loop-at-test.true _ c.as_slice-in-loop-at.result.now (c.as_slice-in-loop-at.ensures ∙ c.rows-rights.ensures)

pub ask-requires-clause-stand : goal.ask-requires-clause-stand
ask-requires-clause-stand g c = claims-stand c.loop-at.invariant

pub returns-then-not-branch : goal.returns-then-not-branch
returns-then-not-branch g c = (
  λ no. cc,
  λ e. absurd (claims-no c.loop-at.invariant c.loop-at-test.true c.as_slice.result.now c.as_slice-in-loop-at.result.now (c.as_slice.ensures ∙ c.rows-lefts.ensures) (c.as_slice-in-loop-at.ensures ∙ c.rows-rights.ensures) (c.in_ok-ask.ensures.no c.if-not-branch.true) e),
)

pub loop-at-preserved : goal.loop-at-preserved
loop-at-preserved g c =
    claims-next c.loop-at.invariant c.loop-at-test.true c.as_slice.result.now c.as_slice-in-loop-at.result.now (c.as_slice.ensures ∙ c.rows-lefts.ensures) (c.as_slice-in-loop-at.ensures ∙ c.rows-rights.ensures)
    (lists c.ask.new.self.environments) c.ask.new.self.pairs.keys c.ask.ensures.grows (c.in_ok-ask.ensures.yes c.if-not-branch.false)

pub agree-requires : goal.agree-requires
agree-requires g c = claims-stand c.loop-at.invariant

pub returns : goal.returns
returns g c =
    let f = g.R.Rows.means c.args.rows.now in
    asks-decides f (lists c.loop-at.self.environments) (claimed f c.args.left ≡ claimed f c.args.right) _ c.loop-at.self.pairs.keys _ refl (claims-end c.loop-at.invariant c.loop-at-test.false) c.in_ok-agree.ensures
