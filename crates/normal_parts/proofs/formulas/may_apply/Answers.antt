use Rattle.std.proofs.Common.{refl, sym, ap, subst, Vec, Global}
use Rattle.std.specs.Prelude.{option_map}
use Rattle.antichains.specs.Antichains.{IsNormal}
use Rattle.closures.specs.Shown.{lists}
use Rattle.tree_frames.specs.Frames.{tree_in}
use Rattle.fixed_names.specs.Scopes.{fixed_in}
use Rattle.fixed_names.specs.Shown.{fixed_by}
use Rattle.normal_formulas.specs.declared.atoms.Atom.{Atom}
use Rattle.normal_formulas.specs.Atoms.{sum_of_products, atom_cmp, lists_of}
use Rattle.normal_formulas.specs.Reads.{Reads}
use Rattle.normal_parts.specs.Parts.{AreAllFree, IsEnd}
use Rattle.normal_parts.proofs.PartLaws.{of-formula, may-apply}
use Rattle.normal_parts.proofs.TellLaws.{is-no, false-true, for-both}
use Rattle.normal_parts.proofs.formulas.may_apply.Goals as goal

pub returns-then-not-are_all_free-clause-tells : goal.returns-then-not-are_all_free-clause-tells
returns-then-not-are_all_free-clause-tells g c =
    let z = fixed_in (fixed_by c.args.scopes.now) c.args.scope in
    let t = tree_in (g.R.Rows.means c.args.rows.now) (lists c.args.environments.now) c.args.closure in
    let r = subst (λ found. Reads sum_of_products t (option_map (λ (vs : Vec (Vec Atom Global) Global). lists_of vs.items) found)) c.in-Some.is c.in_ok-products.ensures.reads in
    is-no (λ h. false-true (c.if-not-are_all_free.ensures.1 (subst (λ vs. AreAllFree z (lists_of vs)) (sym c.deref-2.ensures.value) (of-formula z t (lists_of c.in-Some.products.items) r h).1)))

pub returns-clause-tells : goal.returns-clause-tells
returns-clause-tells g c =
    let z = fixed_in (fixed_by c.args.scopes.now) c.args.scope in
    let t = tree_in (g.R.Rows.means c.args.rows.now) (lists c.args.environments.now) c.args.closure in
    let ps = lists_of c.in-Some.products.items in
    let r = subst (λ found. Reads sum_of_products t (option_map (λ (vs : Vec (Vec Atom Global) Global). lists_of vs.items) found)) c.in-Some.is c.in_ok-products.ensures.reads in
    for-both _
    (λ normal. may-apply z t ps r (λ e. false-true (c.if-is_end.ensures.1 (subst (λ vs. IsEnd (lists_of vs)) (sym c.deref.ensures.value) e)))
    (subst (λ vs. AreAllFree z (lists_of vs)) c.deref-2.ensures.value (c.if-not-are_all_free.ensures.0 refl)) (subst (λ vs. IsNormal atom_cmp (lists_of vs)) c.deref-3.ensures.value normal))
    (λ h. subst (λ vs. IsNormal atom_cmp (lists_of vs)) (sym c.deref-3.ensures.value) (of-formula z t ps r h).2)
    c.in_ok-is_normal_sum.ensures
