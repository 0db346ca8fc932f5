use Rattle.std.proofs.Common.{◌-◌, ◌+◌, refl}
use Rattle.closures.specs.Environments.{deepest}
use Rattle.closures.specs.Shown.{lists}
use Rattle.tree_texts.proofs.SideLaws.{parts-comp, parts-glue_type, parts-glue, parts-unglue}
use Rattle.tree_texts.proofs.texts.leave_parts.Goals as goal

pub returns-in_ok-extend_from_slice-in-Comp : goal.returns-in_ok-extend_from_slice-in-Comp
returns-in_ok-extend_from_slice-in-Comp g c =
    parts-comp (g.R.Rows.means c.args.rows.now) (lists c.args.environments.now) (deepest - 1) c.args.frame.now c.kid_of-line.result c.kid_of-body.result c.kid_of-base.result (c.args.frame.now.level + 1) c.args.tasks.now.items _
    c.requires.stands c.in-Comp.is refl c.kid_of-line.ensures c.kid_of-body.ensures c.kid_of-base.ensures c.in_ok-extend_from_slice-in-Comp.ensures.items

pub returns-in_ok-leave_system-in-GlueType : goal.returns-in_ok-leave_system-in-GlueType
returns-in_ok-leave_system-in-GlueType g c =
    parts-glue_type (g.R.Rows.means c.args.rows.now) (lists c.args.environments.now) (deepest - 1) c.args.frame.now c.kid_of-base-in-GlueType.result c.kid_of-body-in-GlueType.result c.kid_of-second.result c.args.tasks.now.items _
    c.requires.stands c.in-GlueType.is c.kid_of-base-in-GlueType.ensures c.kid_of-body-in-GlueType.ensures c.kid_of-second.ensures c.in_ok-leave_system-in-GlueType.ensures

pub returns-in_ok-leave_system-in-Glue : goal.returns-in_ok-leave_system-in-Glue
returns-in_ok-leave_system-in-Glue g c =
    parts-glue (g.R.Rows.means c.args.rows.now) (lists c.args.environments.now) (deepest - 1) c.args.frame.now c.kid_of-base-in-Glue.result c.kid_of-body-in-Glue.result c.args.tasks.now.items _
    c.requires.stands c.in-Glue.is c.kid_of-base-in-Glue.ensures c.kid_of-body-in-Glue.ensures c.in_ok-leave_system-in-Glue.ensures

pub returns-in_ok-leave_system-in-Unglue : goal.returns-in_ok-leave_system-in-Unglue
returns-in_ok-leave_system-in-Unglue g c =
    parts-unglue (g.R.Rows.means c.args.rows.now) (lists c.args.environments.now) (deepest - 1) c.args.frame.now c.kid_of-base-in-Unglue.result c.kid_of-body-in-Unglue.result c.kid_of-second-in-Unglue.result c.args.tasks.now.items _
    c.requires.stands c.in-Unglue.is c.kid_of-base-in-Unglue.ensures c.kid_of-body-in-Unglue.ensures c.kid_of-second-in-Unglue.ensures c.in_ok-leave_system-in-Unglue.ensures
