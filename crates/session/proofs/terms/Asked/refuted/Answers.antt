use Rattle.std.proofs.Common.{subst}
use Rattle.session.specs.Lines.{not_inferred, refuted}
use Rattle.session.specs.Refutals.{IsRefutal}
use Rattle.session.proofs.terms.Asked.refuted.Goals as goal

pub returns-in-CannotInfer : goal.returns-in-CannotInfer
returns-in-CannotInfer c = λ t. not_inferred c.args.at c.refused.ensures

pub returns-in-Shown : goal.returns-in-Shown
returns-in-Shown c = λ t.
    let is = subst IsRefutal c.in-Shown.is (c.in_ok-refutal.ensures c.in-Some.refutal c.in-Some.is) in
    refuted c.args.at c.in-Shown.cause c.in-Shown.evidence is c.told_with.ensures
