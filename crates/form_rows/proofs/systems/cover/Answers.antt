use Rattle.std.proofs.Common.{refl}
use Rattle.trees.specs.declared.op.Op.TheVariants as op
use Rattle.translation.specs.Terms.{f0}
use Rattle.form_rows.proofs.RowLaws.{are_kept, are_none, is_made, trees_kept}
use Rattle.form_rows.proofs.systems.cover.Goals as goal

pub nested-requires-clause-rows : goal.nested-requires-clause-rows
nested-requires-clause-rows g c = trees_kept _ _ _ c.make.ensures.kept c.requires

pub returns-clause-covers : goal.returns-clause-covers
returns-clause-covers g c ps a = c.in_ok-nested.ensures.nested ps f0 (are_kept c.make.ensures.kept a) (is_made op.F0 refl (are_none (g.M.Rows.means c.args.maker.now)) c.in_ok-none.ensures.meaning)
