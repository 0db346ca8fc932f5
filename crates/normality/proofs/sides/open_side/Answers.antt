use Rattle.std.proofs.Common.{◌-◌, sym, ◌∙◌, ap, ap₂, subst, Vec, Global, Some, None}
use Rattle.std.specs.Prelude.{option_map}
use Rattle.trees.specs.Operators.{binds_of}
use Rattle.rows.proofs.TableLaws.{grows-grows, grows-same}
use Rattle.closures.specs.Environments.{deepest}
use Rattle.closures.specs.Shown.{lists}
use Rattle.closures.proofs.HeadLaws.{closure-grows}
use Rattle.tree_frames.specs.Frames.{tree_in}
use Rattle.tree_frames.proofs.FrameLaws.{tree-grows}
use Rattle.fixed_names.specs.Shown.{fixed_by}
use Rattle.fixed_names.specs.Scopes.{fixed_in}
use Rattle.normal_parts.specs.Normal.{fix_all}
use Rattle.normal_formulas.specs.declared.atoms.Atom.{Atom}
use Rattle.normal_parts.specs.Parts.{IsConjunctionOf}
use Rattle.normal_parts.proofs.TellLaws.{yes-is, no-is}
use Rattle.normality.proofs.SideLaws.{side-no-cover, side-no-conjunction, leaves-side, conjunction-earlier}
use Rattle.normality.proofs.sides.open_side.Goals as goal

pub is_cover_written-requires-clause-first : goal.is_cover_written-requires-clause-first
is_cover_written-requires-clause-first g c = c.kid_of-others.ensures.same (deepest - 1) c.requires.face.environment_stands (ap (λ o. binds_of o 1) c.requires.joins)

pub is_cover_written-requires-clause-second : goal.is_cover_written-requires-clause-second
is_cover_written-requires-clause-second g c = c.kid_of-cover.ensures.same (deepest - 1) c.requires.body.environment_stands (ap (λ o. binds_of o 1) c.requires.sides)

pub returns-then-not-branch-clause-tells : goal.returns-then-not-branch-clause-tells
returns-then-not-branch-clause-tells g c =
    side-no-cover (g.R.Rows.means c.args.rows.now) (lists c.args.environments.now) (lists c.is_cover_written.new.environments) (fixed_by c.args.scopes.now) (fixed_by c.args.scopes.now) c.args.sides c.args.face.now c.args.body.now c.args.tests.now.items c.args.tests.now.items c.is_cover_written.ensures.grows (grows-same (fixed_by c.args.scopes.now))
    (deepest - 1) c.kid_of-first.result c.kid_of-others.result c.kid_of-written.result c.kid_of-cover.result c.kid_of-term.result c.kid_of-rest.result c.requires.face c.requires.body c.requires.joins c.requires.sides c.kid_of-first.ensures c.kid_of-others.ensures c.kid_of-written.ensures c.kid_of-cover.ensures c.kid_of-term.ensures c.kid_of-rest.ensures
    (no-is _ c.in_ok-is_cover_written.ensures.tells c.if-not-branch.true)

pub written_conjunction-requires-clause-first : goal.written_conjunction-requires-clause-first
written_conjunction-requires-clause-first g c =
    closure-grows (g.R.Rows.means c.args.rows.now) (lists c.args.environments.now) (lists c.is_cover_written.new.environments) (deepest - 1) c.kid_of-first.result c.is_cover_written.ensures.grows
    (c.kid_of-first.ensures.same (deepest - 1) c.requires.face.environment_stands (ap (λ o. binds_of o 0) c.requires.joins))

pub written_conjunction-requires-clause-second : goal.written_conjunction-requires-clause-second
written_conjunction-requires-clause-second g c =
    closure-grows (g.R.Rows.means c.args.rows.now) (lists c.args.environments.now) (lists c.is_cover_written.new.environments) (deepest - 1) c.kid_of-written.result c.is_cover_written.ensures.grows
    (c.kid_of-written.ensures.same (deepest - 1) c.requires.body.environment_stands (ap (λ o. binds_of o 0) c.requires.sides))

pub returns-in_default-clause-tells : goal.returns-in_default-clause-tells
returns-in_default-clause-tells g c =
    let f = g.R.Rows.means c.args.rows.now in
    let old = lists c.args.environments.now in
    let mid = lists c.is_cover_written.new.environments in
    let last = lists c.written_conjunction.new.environments in
    let z = fixed_by c.args.scopes.now in
    let conj = conjunction-earlier f old mid (deepest - 1) c.args.sides.raised c.args.face.now c.args.body.now c.kid_of-first.result c.kid_of-written.result None c.is_cover_written.ensures.grows c.requires.face c.requires.body c.kid_of-first.ensures c.kid_of-written.ensures
    (subst (λ found. IsConjunctionOf c.args.sides.raised (tree_in f mid c.kid_of-first.result) (tree_in f mid c.kid_of-written.result) (option_map (λ (v : Vec Atom Global). v.items) found)) c.in_default.is c.in_ok-atoms.ensures.atoms) in
    side-no-conjunction f old last z z c.args.sides c.args.face.now c.args.body.now c.args.tests.now.items c.args.tests.now.items (grows-grows old mid last c.is_cover_written.ensures.grows c.written_conjunction.ensures.grows) (grows-same z)
    (deepest - 1) c.kid_of-first.result c.kid_of-others.result c.kid_of-written.result c.kid_of-cover.result c.kid_of-term.result c.kid_of-rest.result c.requires.face c.requires.body c.requires.joins c.requires.sides c.kid_of-first.ensures c.kid_of-others.ensures c.kid_of-written.ensures c.kid_of-cover.ensures c.kid_of-term.ensures c.kid_of-rest.ensures
    conj

pub returns-clause-tells : goal.returns-clause-tells
returns-clause-tells g c =
    let f = g.R.Rows.means c.args.rows.now in
    let old = lists c.args.environments.now in
    let mid = lists c.is_cover_written.new.environments in
    let last = lists c.written_conjunction.new.environments in
    let z = fixed_by c.args.scopes.now in
    let conj = conjunction-earlier f old mid (deepest - 1) c.args.sides.raised c.args.face.now c.args.body.now c.kid_of-first.result c.kid_of-written.result (Some c.in-Some.atoms.items) c.is_cover_written.ensures.grows c.requires.face c.requires.body c.kid_of-first.ensures c.kid_of-written.ensures
    (subst (λ found. IsConjunctionOf c.args.sides.raised (tree_in f mid c.kid_of-first.result) (tree_in f mid c.kid_of-written.result) (option_map (λ (v : Vec Atom Global). v.items) found)) c.in-Some.is c.in_ok-atoms.ensures.atoms) in
    leaves-side f old last z (fixed_by c.fixed_within.new.scopes) c.args.sides c.args.face.now c.args.body.now c.args.tests.now.items c.extend_from_slice.new.self.items (grows-grows old mid last c.is_cover_written.ensures.grows c.written_conjunction.ensures.grows) c.fixed_within.ensures.grows
    (deepest - 1) c.kid_of-first.result c.kid_of-others.result c.kid_of-written.result c.kid_of-cover.result c.kid_of-term.result c.kid_of-rest.result c.requires.face c.requires.body c.requires.joins c.requires.sides c.kid_of-first.ensures c.kid_of-others.ensures c.kid_of-written.ensures c.kid_of-cover.ensures c.kid_of-term.ensures c.kid_of-rest.ensures
    c.in-Some.atoms.items c.in_ok-scope.scope conj (yes-is _ c.in_ok-is_cover_written.ensures.tells c.if-not-branch.false) c.requires.within
    (c.in_ok-scope.ensures.fixes ∙ ap (λ es. fix_all es (fixed_in z c.args.sides.scope)) c.deref.ensures.value) c.in_ok-scope.ensures.within c.in_ok-scope.ensures.depth c.in_ok-extend_from_slice.ensures.items
