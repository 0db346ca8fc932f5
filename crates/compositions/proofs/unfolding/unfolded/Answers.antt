use Rattle.theory.specs.declared.rule.CompRule.TheVariants as comp
use Rattle.compositions.proofs.UnfoldLaws.{no_subst}
use Rattle.compositions.proofs.unfolding.unfolded.Goals as goal

pub unfold-requires-clause-right : goal.unfold-requires-clause-right
unfold-requires-clause-right c =
    let (J, h) = c.in_ok-concluded.ensures in
    let plain = no_subst c.args.step.now.rule c.in-Composition.rule comp.CompPi c.in-Composition.is c.in-CompPi.is tt in
    c.laws_of_unfoldings.ensures.may_use c.concluded.new.book c.args.ctx c.args.step.now J plain h

pub unfold-requires-in-CompSig-clause-right : goal.unfold-requires-in-CompSig-clause-right
unfold-requires-in-CompSig-clause-right c =
    let (J, h) = c.in_ok-concluded.ensures in
    let plain = no_subst c.args.step.now.rule c.in-Composition.rule comp.CompSig c.in-Composition.is c.in-CompSig.is tt in
    c.laws_of_unfoldings.ensures.may_use c.concluded.new.book c.args.ctx c.args.step.now J plain h

pub unfold-requires-in-CompPath-clause-right : goal.unfold-requires-in-CompPath-clause-right
unfold-requires-in-CompPath-clause-right c =
    let (J, h) = c.in_ok-concluded.ensures in
    let plain = no_subst c.args.step.now.rule c.in-Composition.rule comp.CompPath c.in-Composition.is c.in-CompPath.is tt in
    c.laws_of_unfoldings.ensures.may_use c.concluded.new.book c.args.ctx c.args.step.now J plain h

pub unfold-requires-in-CompGlue-clause-right : goal.unfold-requires-in-CompGlue-clause-right
unfold-requires-in-CompGlue-clause-right c =
    let (J, h) = c.in_ok-concluded.ensures in
    let plain = no_subst c.args.step.now.rule c.in-Composition.rule comp.CompGlue c.in-Composition.is c.in-CompGlue.is tt in
    c.laws_of_unfoldings.ensures.may_use c.concluded.new.book c.args.ctx c.args.step.now J plain h

pub unfold-requires-in-CompU-clause-right : goal.unfold-requires-in-CompU-clause-right
unfold-requires-in-CompU-clause-right c =
    let (J, h) = c.in_ok-concluded.ensures in
    let plain = no_subst c.args.step.now.rule c.in-Composition.rule comp.CompU c.in-Composition.is c.in-CompU.is tt in
    c.laws_of_unfoldings.ensures.may_use c.concluded.new.book c.args.ctx c.args.step.now J plain h
