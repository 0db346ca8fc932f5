use Rattle.std.proofs.Common.{arith}
use Rattle.form_rows.proofs.FaceLaws.{faced_more}
use Rattle.form_rows.proofs.formulas.face.Goals as goal

pub loop-each-preserved : goal.loop-each-preserved
loop-each-preserved g c =
    faced_more _ _ c.in_ok-push.ensures.items (omega arith) c.loop-each.invariant c.equation.ensures.kept c.in_ok-equation.ensures.tree
