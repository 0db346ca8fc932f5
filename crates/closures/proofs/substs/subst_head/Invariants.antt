use Rattle.std.proofs.Common.{◌+◌}
use Rattle.closures.specs.Shown.{lists}
use Rattle.closures.specs.Environments.{listed}
use Rattle.closures.specs.Weights.{row_weight, weight_of}
use Rattle.closures.proofs.SubstLaws.{Drops}
use Rattle.closures.proofs.substs.subst_head.Given as goal

-- so much was dropped on the way from the first closure
abbrev pub invariant-loop-past : goal.invariant-loop-past
invariant-loop-past g l =
    Drops (g.R.Rows.means l.rows) (lists l.fn.environments) l.fn.closure (lists l.environments) l.row l.environment l.dropped

abbrev pub decreases-loop-past : goal.decreases-loop-past
decreases-loop-past g l = row_weight l.row.0 + weight_of (listed (lists l.environments) l.environment)
