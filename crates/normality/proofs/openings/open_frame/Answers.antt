use Rattle.std.proofs.Common.{◌-◌, sym, arith}
use Rattle.closures.specs.Environments.{deepest}
use Rattle.closures.specs.Shown.{lists}
use Rattle.fixed_names.specs.Shown.{fixed_by}
use Rattle.tree_frames.proofs.FrameLaws.{frame-deeper}
use Rattle.normality.proofs.NormalLaws.{is-path-application, is-composition, is-glue-type, is-glue, is-unglue}
use Rattle.normality.proofs.OpenLaws.{leaves-kids, no-frame}
use Rattle.normality.proofs.openings.open_frame.Goals as goal

pub returns-in_ok-push-in-ByKids-clause-tells : goal.returns-in_ok-push-in-ByKids-clause-tells
returns-in_ok-push-in-ByKids-clause-tells g c =
    leaves-kids (g.R.Rows.means c.args.rows.now) (lists c.args.environments.now) (fixed_by c.args.scopes.now) (deepest - 2) c.args.scope c.args.frame c.args.tests.now.items c.push.new.self.items c.requires.stands c.requires.start (sym c.in-ByKids.ensures) c.in_ok-push-in-ByKids.ensures.items

pub open_path_application-requires-clause-stands : goal.open_path_application-requires-clause-stands
open_path_application-requires-clause-stands g c =
    frame-deeper (g.R.Rows.means c.args.rows.now) (lists c.args.environments.now) (deepest - 2) (deepest - 1) c.args.frame (omega arith) c.requires.stands

pub open_path_application-requires-clause-op : goal.open_path_application-requires-clause-op
open_path_application-requires-clause-op g c = is-path-application c.args.frame.op (sym c.in-PathApplication.ensures)

pub open_composition-requires-clause-op : goal.open_composition-requires-clause-op
open_composition-requires-clause-op g c = is-composition c.args.frame.op (sym c.in-Composition.ensures)

pub open_glue_type-requires-clause-stands : goal.open_glue_type-requires-clause-stands
open_glue_type-requires-clause-stands g c =
    frame-deeper (g.R.Rows.means c.args.rows.now) (lists c.args.environments.now) (deepest - 2) (deepest - 1) c.args.frame (omega arith) c.requires.stands

pub open_glue_type-requires-clause-op : goal.open_glue_type-requires-clause-op
open_glue_type-requires-clause-op g c = is-glue-type c.args.frame.op (sym c.in-GlueType.ensures)

pub open_glue-requires-clause-stands : goal.open_glue-requires-clause-stands
open_glue-requires-clause-stands g c =
    frame-deeper (g.R.Rows.means c.args.rows.now) (lists c.args.environments.now) (deepest - 2) (deepest - 1) c.args.frame (omega arith) c.requires.stands

pub open_glue-requires-clause-op : goal.open_glue-requires-clause-op
open_glue-requires-clause-op g c = is-glue c.args.frame.op (sym c.in-Glue.ensures)

pub open_unglue-requires-clause-stands : goal.open_unglue-requires-clause-stands
open_unglue-requires-clause-stands g c =
    frame-deeper (g.R.Rows.means c.args.rows.now) (lists c.args.environments.now) (deepest - 2) (deepest - 1) c.args.frame (omega arith) c.requires.stands

pub open_unglue-requires-clause-op : goal.open_unglue-requires-clause-op
open_unglue-requires-clause-op g c = is-unglue c.args.frame.op (sym c.in-Unglue.ensures)

pub returns-in-Never-clause-tells : goal.returns-in-Never-clause-tells
returns-in-Never-clause-tells g c =
    no-frame (g.R.Rows.means c.args.rows.now) (lists c.args.environments.now) (lists c.args.environments.now) (fixed_by c.args.scopes.now) c.args.scope c.args.frame c.args.tests.now.items c.args.tests.now.items (sym c.in-Never.ensures)
