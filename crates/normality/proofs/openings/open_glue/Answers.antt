use Rattle.std.proofs.Common.{◌-◌, ◌∙◌, ap, ap₂, ◌++◌, ◌∷◌, []}
use Rattle.trees.specs.Operators.{binds_of}
use Rattle.closures.specs.Environments.{deepest}
use Rattle.closures.specs.Shown.{lists}
use Rattle.fixed_names.specs.Shown.{fixed_by}
use Rattle.normality.specs.declared.tests.Test.TheVariants as test
use Rattle.normal_parts.proofs.TellLaws.{yes-is, no-is}
use Rattle.normality.proofs.LeaveLaws.{leaves-glue, no-frame-glue}
use Rattle.normality.proofs.openings.open_glue.Goals as goal

pub is_normal_face-requires-clause-stands : goal.is_normal_face-requires-clause-stands
is_normal_face-requires-clause-stands g c =
    c.kid_of-face.ensures.same (deepest - 1) c.requires.stands.environment_stands (ap (λ o. binds_of o 0) c.requires.op)

pub returns-then-not-branch-clause-tells : goal.returns-then-not-branch-clause-tells
returns-then-not-branch-clause-tells g c =
    no-frame-glue (g.R.Rows.means c.args.rows.now) (lists c.args.environments.now) (lists c.is_normal_face.new.environments) (fixed_by c.args.scopes.now) c.args.scope c.args.frame.now c.args.tests.now.items c.args.tests.now.items c.is_normal_face.ensures.grows
    (deepest - 1) c.kid_of-face.result c.kid_of-body.result c.kid_of-base.result c.requires.stands c.requires.op c.kid_of-face.ensures c.kid_of-body.ensures c.kid_of-base.ensures (no-is _ c.in_ok-is_normal_face.ensures.tells c.if-not-branch.true)

pub returns-clause-tells : goal.returns-clause-tells
returns-clause-tells g c =
    leaves-glue (g.R.Rows.means c.args.rows.now) (lists c.args.environments.now) (lists c.is_normal_face.new.environments) (fixed_by c.args.scopes.now) c.args.scope c.args.frame.now c.args.tests.now.items c.extend_from_slice.new.self.items c.is_normal_face.ensures.grows
    (deepest - 1) c.kid_of-face.result c.kid_of-body.result c.kid_of-base.result c.requires.stands c.requires.op c.kid_of-face.ensures c.kid_of-body.ensures c.kid_of-base.ensures (yes-is _ c.in_ok-is_normal_face.ensures.tells c.if-not-branch.false) c.in_ok-extend_from_slice.ensures.items
