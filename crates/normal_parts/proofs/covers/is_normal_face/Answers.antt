use Rattle.std.proofs.Common.{sym, ap, subst, Vec, Global}
use Rattle.std.specs.Prelude.{option_map}
use Rattle.closures.specs.Shown.{lists}
use Rattle.tree_frames.specs.Frames.{tree_in}
use Rattle.fixed_names.specs.Scopes.{fixed_in}
use Rattle.fixed_names.specs.Shown.{fixed_by}
use Rattle.normal_formulas.specs.declared.atoms.Atom.{Atom}
use Rattle.normal_formulas.specs.Atoms.{cover, lists_of}
use Rattle.normal_formulas.specs.Reads.{Reads}
use Rattle.normal_parts.specs.Parts.{AreAllFree}
use Rattle.normal_parts.proofs.PartLaws.{of-face}
use Rattle.normal_parts.proofs.TellLaws.{is-no, false-true}
use Rattle.normal_parts.proofs.covers.is_normal_face.Goals as goal

pub returns-then-not-are_all_free-clause-tells : goal.returns-then-not-are_all_free-clause-tells
returns-then-not-are_all_free-clause-tells g c =
    let z = fixed_in (fixed_by c.args.scopes.now) c.args.scope in
    let t = tree_in (g.R.Rows.means c.args.rows.now) (lists c.args.environments.now) c.args.face in
    let r = subst (λ found. Reads cover t (option_map (λ (vs : Vec (Vec Atom Global) Global). lists_of vs.items) found)) c.in-Some.is c.in_ok-conjunctions.ensures.reads in
    is-no (λ h. false-true (c.if-not-are_all_free.ensures.1 (subst (λ vs. AreAllFree z (lists_of vs)) (sym c.deref-2.ensures.value) (of-face z t (lists_of c.in-Some.conjunctions.items) r h).1)))
