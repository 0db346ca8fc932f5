use Rattle.std.proofs.Common.{◌-◌, sym, ◌∙◌, ap, ap₂, subst, map, Vec, Global}
use Rattle.std.specs.Prelude.{option_map}
use Rattle.closures.specs.Environments.{deepest}
use Rattle.closures.specs.Shown.{lists}
use Rattle.closures.proofs.HeadLaws.{closure-grows}
use Rattle.tree_frames.specs.Frames.{tree_in}
use Rattle.tree_frames.proofs.FrameLaws.{tree-grows}
use Rattle.normal_formulas.specs.declared.atoms.Atom.{Atom}
use Rattle.normal_formulas.specs.Atoms.{cover, lists_of}
use Rattle.normal_formulas.specs.Reads.{Reads}
use Rattle.normal_parts.specs.Parts.{all_written}
use Rattle.normal_parts.proofs.TellLaws.{for-both}
use Rattle.normal_parts.proofs.WrittenLaws.{cover-found, cover-same}
use Rattle.normal_parts.proofs.written.is_cover_written.Goals as goal

pub cover_of-requires-2 : goal.cover_of-requires-2
cover_of-requires-2 g c = closure-grows (g.R.Rows.means c.args.rows.now) (lists c.args.environments.now) (lists c.cover_of.new.environments) (deepest - 1) c.args.written c.cover_of.ensures.grows c.requires.second

pub returns-clause-tells : goal.returns-clause-tells
returns-clause-tells g c =
    let f = g.R.Rows.means c.args.rows.now in
    let old = lists c.args.environments.now in
    let mid = lists c.cover_of.new.environments in
    let t = tree_in f old c.args.face in
    let u = tree_in f old c.args.written in
    let cs = lists_of c.in-Some.conjunctions.items in
    let ds = lists_of c.in-Some-2.found.items in
    let r = subst (λ found. Reads cover t (option_map (λ (vs : Vec (Vec Atom Global) Global). lists_of vs.items) found)) c.in-Some.is c.in_ok-conjunctions.ensures.reads in
    let later = tree-grows f old mid (deepest - 1) c.args.written c.cover_of.ensures.grows c.requires.second in
    let s = subst (λ x. Reads cover x (option_map (λ (vs : Vec (Vec Atom Global) Global). lists_of vs.items) c.in_ok-found.field-0)) later c.in_ok-found.ensures.reads in
    let s' = subst (λ found. Reads cover u (option_map (λ (vs : Vec (Vec Atom Global) Global). lists_of vs.items) found)) c.in-Some-2.is s in
    for-both _
    (λ same. cover-found c.args.raised t u cs ds r s' (ap lists_of (sym c.deref-2.ensures.value) ∙ same ∙ ap (λ vs. map (all_written c.args.raised) (lists_of vs)) c.deref.ensures.value))
    (λ h. ap lists_of c.deref-2.ensures.value ∙ cover-same c.args.raised t u cs ds r s' h ∙ ap (λ vs. map (all_written c.args.raised) (lists_of vs)) (sym c.deref.ensures.value))
    c.are_all_written.ensures
