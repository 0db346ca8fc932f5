use Rattle.std.proofs.Common.{◌-◌, ap}
use Rattle.trees.specs.Operators.{binds_of}
use Rattle.closures.specs.Environments.{deepest}
use Rattle.closures.specs.Shown.{lists}
use Rattle.fixed_names.specs.Shown.{fixed_by}
use Rattle.normal_parts.proofs.TellLaws.{yes-is, no-is}
use Rattle.normality.proofs.LeaveLaws.{leaves-path, no-frame-path}
use Rattle.normality.proofs.openings.open_path_application.Goals as goal

pub may_apply-requires-clause-stands : goal.may_apply-requires-clause-stands
may_apply-requires-clause-stands g c =
    c.kid_of-formula.ensures.same (deepest - 1) c.requires.stands.environment_stands (ap (λ o. binds_of o 1) c.requires.op)

pub returns-then-not-branch-clause-tells : goal.returns-then-not-branch-clause-tells
returns-then-not-branch-clause-tells g c =
    no-frame-path (g.R.Rows.means c.args.rows.now) (lists c.args.environments.now) (lists c.may_apply.new.environments) (fixed_by c.args.scopes.now) c.args.scope c.args.frame.now c.args.tests.now.items c.args.tests.now.items c.may_apply.ensures.grows
    (deepest - 1) c.kid_of-path.result c.kid_of-formula.result c.requires.stands c.requires.op c.kid_of-path.ensures c.kid_of-formula.ensures (no-is _ c.in_ok-may_apply.ensures.tells c.if-not-branch.true)

pub returns-clause-tells : goal.returns-clause-tells
returns-clause-tells g c =
    leaves-path (g.R.Rows.means c.args.rows.now) (lists c.args.environments.now) (lists c.may_apply.new.environments) (fixed_by c.args.scopes.now) c.args.scope c.args.frame.now c.args.tests.now.items c.push.new.self.items c.may_apply.ensures.grows
    (deepest - 1) c.kid_of-path.result c.kid_of-formula.result c.requires.stands c.requires.op c.kid_of-path.ensures c.kid_of-formula.ensures (yes-is _ c.in_ok-may_apply.ensures.tells c.if-not-branch.false) c.in_ok-push.ensures.items
