use Rattle.closures.specs.Shown.{lists}
use Rattle.closures.proofs.VariableLaws.{Walks}
use Rattle.closures.proofs.variables.enter.Given as goal

abbrev pub invariant-loop-past : goal.invariant-loop-past
invariant-loop-past g l =
    Walks (g.R.Rows.means l.rows) (lists l.fn.environments) l.fn.subst l.fn.index l.lift l.fn.after (lists l.environments) l.subst l.index l.after

-- each row that is met names earlier rows
abbrev pub decreases-loop-past : goal.decreases-loop-past
decreases-loop-past g l = l.subst.0
