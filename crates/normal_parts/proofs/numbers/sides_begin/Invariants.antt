use Rattle.std.proofs.Common.{◌-◌}
use Rattle.closures.specs.Environments.{deepest}
use Rattle.closures.specs.Shown.{lists}
use Rattle.tree_frames.specs.Frames.{tree_in, weight}
use Rattle.normal_parts.proofs.NumberLaws.{Along}
use Rattle.normal_parts.proofs.numbers.sides_begin.Given as goal

-- all sides begin so exactly where those that are left do
abbrev pub invariant-loop-frame : goal.invariant-loop-frame
invariant-loop-frame g l = Along (g.R.Rows.means l.rows) (lists l.fn.environments) (lists l.environments) (deepest - 1) l.fn.op l.fn.body l.rest

abbrev pub decreases-loop-frame : goal.decreases-loop-frame
decreases-loop-frame g l = weight (tree_in (g.R.Rows.means l.rows) (lists l.environments) l.rest)
