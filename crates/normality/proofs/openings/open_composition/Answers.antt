use Rattle.std.proofs.Common.{◌-◌, ◌+◌, ap, ap₂, subst, sym, ◌∙◌, arith}
use Rattle.trees.specs.Operators.{binds_of}
use Rattle.rows.proofs.TableLaws.{grows-grows}
use Rattle.closures.specs.Environments.{deepest}
use Rattle.closures.specs.Shown.{lists}
use Rattle.closures.proofs.HeadLaws.{closure-deeper, closure-grows}
use Rattle.fixed_names.specs.Fixed.{bound}
use Rattle.fixed_names.specs.Shown.{fixed_by}
use Rattle.tree_frames.proofs.FrameLaws.{tree-grows, frame-deeper}
use Rattle.normal_parts.specs.Normal.{Computes}
use Rattle.normal_parts.proofs.NumberLaws.{computes-later}
use Rattle.normal_parts.proofs.TellLaws.{yes-is, no-is}
use Rattle.normality.proofs.LeaveLaws.{leaves-comp, no-frame-comp, no-frame-comp-face}
use Rattle.normality.proofs.openings.open_composition.Goals as goal

pub is_normal_face-requires-clause-stands : goal.is_normal_face-requires-clause-stands
is_normal_face-requires-clause-stands g c =
    closure-deeper (g.R.Rows.means c.args.rows.now) (lists c.args.environments.now) (deepest - 2) (deepest - 1) c.kid_of-face.result (omega arith)
    (c.kid_of-face.ensures.same (deepest - 2) c.requires.stands.environment_stands (ap (λ o. binds_of o 1) c.requires.op))

pub returns-then-not-branch-clause-tells : goal.returns-then-not-branch-clause-tells
returns-then-not-branch-clause-tells g c =
    no-frame-comp-face (g.R.Rows.means c.args.rows.now) (lists c.args.environments.now) (lists c.is_normal_face.new.environments) (fixed_by c.args.scopes.now) c.args.scope c.args.frame.now c.args.tests.now.items c.args.tests.now.items c.is_normal_face.ensures.grows
    (deepest - 2) c.kid_of-line.result c.kid_of-face.result c.kid_of-body.result c.kid_of-base.result c.requires.stands c.requires.op c.kid_of-line.ensures c.kid_of-face.ensures c.kid_of-body.ensures c.kid_of-base.ensures (no-is _ c.in_ok-is_normal_face.ensures.tells c.if-not-branch.true)

pub computes-requires : goal.computes-requires
computes-requires g c =
    let f = g.R.Rows.means c.args.rows.now in
    let old = lists c.args.environments.now in
    let mid = lists c.is_normal_face.new.environments in
    let env = c.requires.stands.environment_stands in
    record {
      line = closure-deeper f mid (deepest - 1) (deepest - 1) c.kid_of-line.result (omega arith) (closure-grows f old mid (deepest - 1) c.kid_of-line.result c.is_normal_face.ensures.grows (c.kid_of-line.ensures.stands (deepest - 2) env));
      body = closure-deeper f mid (deepest - 1) (deepest - 1) c.kid_of-body.result (omega arith) (closure-grows f old mid (deepest - 1) c.kid_of-body.result c.is_normal_face.ensures.grows (c.kid_of-body.ensures.stands (deepest - 2) env));
      base = closure-deeper f mid (deepest - 1) (deepest - 1) c.kid_of-base.result (omega arith) (closure-grows f old mid (deepest - 1) c.kid_of-base.result c.is_normal_face.ensures.grows (c.kid_of-base.ensures.stands (deepest - 2) env));
    }

pub returns-then-branch-clause-tells : goal.returns-then-branch-clause-tells
returns-then-branch-clause-tells g c =
    let f = g.R.Rows.means c.args.rows.now in
    let old = lists c.args.environments.now in
    let mid = lists c.is_normal_face.new.environments in
    let env = c.requires.stands.environment_stands in
    let e = computes-later f old mid (deepest - 1) c.kid_of-line.result c.kid_of-body.result c.kid_of-base.result c.is_normal_face.ensures.grows (c.kid_of-line.ensures.stands (deepest - 2) env) (c.kid_of-body.ensures.stands (deepest - 2) env) (c.kid_of-base.ensures.stands (deepest - 2) env) in
    no-frame-comp f old (lists c.computes.new.environments) (fixed_by c.args.scopes.now) c.args.scope c.args.frame.now c.args.tests.now.items c.args.tests.now.items (grows-grows old mid (lists c.computes.new.environments) c.is_normal_face.ensures.grows c.computes.ensures.grows)
    (deepest - 2) c.kid_of-line.result c.kid_of-face.result c.kid_of-body.result c.kid_of-base.result c.requires.stands c.requires.op c.kid_of-line.ensures c.kid_of-face.ensures c.kid_of-body.ensures c.kid_of-base.ensures
    (subst (λ X. X) e (yes-is _ c.in_ok-computes.ensures.tells c.if-branch.true))

pub returns-clause-tells : goal.returns-clause-tells
returns-clause-tells g c =
    let f = g.R.Rows.means c.args.rows.now in
    let old = lists c.args.environments.now in
    let mid = lists c.is_normal_face.new.environments in
    let env = c.requires.stands.environment_stands in
    let e = computes-later f old mid (deepest - 1) c.kid_of-line.result c.kid_of-body.result c.kid_of-base.result c.is_normal_face.ensures.grows (c.kid_of-line.ensures.stands (deepest - 2) env) (c.kid_of-body.ensures.stands (deepest - 2) env) (c.kid_of-base.ensures.stands (deepest - 2) env) in
    leaves-comp f old (lists c.computes.new.environments) (fixed_by c.args.scopes.now) c.args.scope c.args.frame.now c.args.tests.now.items c.extend_from_slice.new.self.items (grows-grows old mid (lists c.computes.new.environments) c.is_normal_face.ensures.grows c.computes.ensures.grows)
    (deepest - 2) c.below-below.result c.kid_of-line.result c.kid_of-face.result c.kid_of-body.result c.kid_of-base.result c.requires.stands c.requires.op c.kid_of-line.ensures c.kid_of-face.ensures c.kid_of-body.ensures c.kid_of-base.ensures
    c.below-below.ensures.fixes c.below-below.ensures.within c.below-below.ensures.depth
    (yes-is _ c.in_ok-is_normal_face.ensures.tells c.if-not-branch.false) (λ h. no-is _ c.in_ok-computes.ensures.tells c.if-branch.false (subst (λ X. X) (sym e) h)) c.in_ok-extend_from_slice.ensures.items
