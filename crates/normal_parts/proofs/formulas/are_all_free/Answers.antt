use Rattle.std.proofs.Common.{◌+◌, refl, sym, subst, arith}
use Rattle.std.specs.List.{All}
use Rattle.std.proofs.lemmas.List.{take_all}
use Rattle.fixed_names.specs.Fixed.{IsFree}
use Rattle.fixed_names.specs.Scopes.{fixed_in}
use Rattle.fixed_names.specs.Shown.{fixed_by}
use Rattle.normal_formulas.specs.Atoms.{lists_of}
use Rattle.normal_formulas.proofs.OrderLaws.{length-lists}
use Rattle.normal_parts.specs.Parts.{AreAllFree, AreFree}
use Rattle.normal_parts.proofs.PartLaws.{list-more, list-fails}
use Rattle.normal_parts.proofs.TellLaws.{is-no, is-yes, false-true}
use Rattle.normal_parts.proofs.formulas.are_all_free.Goals as goal

pub returns-then-not-are_free : goal.returns-then-not-are_free
returns-then-not-are_free c =
    let P = AreFree (fixed_in (fixed_by c.args.scopes.now) c.args.scope) in
    is-no (list-fails P c.args.lists.now c.loop-atoms.atoms-index c.atoms-item.result c.loop-atoms-test.true c.atoms-item.is
    (λ h. false-true (c.if-not-are_free.ensures.1 (subst P (sym c.deref.ensures.value) h))))

pub loop-atoms-preserved : goal.loop-atoms-preserved
loop-atoms-preserved c =
    let P = AreFree (fixed_in (fixed_by c.args.scopes.now) c.args.scope) in
    list-more P c.args.lists.now c.loop-atoms.atoms-index c.atoms-item.result c.loop-atoms-test.true c.atoms-item.is (subst P c.deref.ensures.value (c.if-not-are_free.ensures.0 refl)) c.loop-atoms.invariant

pub returns : goal.returns
returns c =
    is-yes (subst (AreAllFree (fixed_in (fixed_by c.args.scopes.now) c.args.scope)) (take_all c.loop-atoms.atoms-index (lists_of c.args.lists.now) (let l = length-lists c.args.lists.now in omega arith)) c.loop-atoms.invariant)
