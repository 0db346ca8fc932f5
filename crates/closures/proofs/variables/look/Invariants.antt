use Rattle.closures.specs.Shown.{lists}
use Rattle.closures.specs.Environments.{listed}
use Rattle.closures.specs.Weights.{weight_of}
use Rattle.closures.proofs.LookLaws.{Looks}
use Rattle.closures.proofs.variables.look.Given as goal

abbrev pub invariant-loop-environment : goal.invariant-loop-environment
invariant-loop-environment g l =
    Looks (g.R.Rows.means l.rows) (lists l.fn.environments) l.fn.index l.fn.environment (lists l.environments) l.index l.environment

abbrev pub decreases-loop-environment : goal.decreases-loop-environment
decreases-loop-environment g l = weight_of (listed (lists l.environments) l.environment)
