use Rattle.std.proofs.Common.{refl}
use Rattle.trees.specs.declared.op.Op.TheVariants as op
use Rattle.form_rows.proofs.RowLaws.{one_fits}
use Rattle.form_rows.proofs.SystemLaws.{lambdas_none, lambdas_more}
use Rattle.form_rows.proofs.terms.under_names.Goals as goal

pub make-requires : goal.make-requires
make-requires g c = one_fits (g.M.Rows.means c.loop-name.maker) c.loop-name.row op.PLam refl c.loop-name.invariant.tree

pub loop-name-init : goal.loop-name-init
loop-name-init g c = lambdas_none _ _ c.requires

pub loop-name-preserved : goal.loop-name-preserved
loop-name-preserved g c = lambdas_more _ c.loop-name.invariant c.make.ensures.kept c.in_ok-row.ensures.meaning
