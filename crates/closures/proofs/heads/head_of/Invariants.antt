use Rattle.closures.specs.Shown.{lists}
use Rattle.closures.specs.Weights.{closure_weight}
use Rattle.closures.proofs.HeadLaws.{Follows}
use Rattle.closures.proofs.heads.head_of.Given as goal

-- the closure means what the first one does, and stands for whatever depth that did
abbrev pub invariant-loop-index : goal.invariant-loop-index
invariant-loop-index g l = Follows (g.R.Rows.means l.rows) (lists l.fn.environments) l.fn.closure (lists l.environments) l.closure

-- what is met weighs more than what it opens to
abbrev pub decreases-loop-index : goal.decreases-loop-index
decreases-loop-index g l = closure_weight (lists l.environments) l.closure
