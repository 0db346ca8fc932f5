use Rattle.std.proofs.Common.{◌≡◌, reverse}
use Rattle.closures.specs.Shown.{lists}
use Rattle.side_conditions.specs.Readings.{IsValued}
use Rattle.side_conditions.specs.Shapes.{tree_at}
use Rattle.side_conditions.specs.Shown.{reading_at}
use Rattle.side_conditions.specs.Walks.{all_steps}
use Rattle.side_conditions.proofs.WalkLaws.{Walks}
use Rattle.side_conditions.proofs.walk.read.Given as goal

-- what was read is right, and what is left leads to the reading of the tree
abbrev pub invariant-loop-task : goal.invariant-loop-task
invariant-loop-task g l =
    Walks (IsValued l.detail) (g.R.Rows.means l.rows) l.names l.fn.root (lists l.fn.environments) (reading_at l.fn.readings) (lists l.environments) (reading_at l.readings) (reverse l.tasks.items)
    × (l.readings.mark ≡ l.fn.readings.mark)

abbrev pub decreases-loop-task : goal.decreases-loop-task
decreases-loop-task g l = all_steps (tree_at (g.R.Rows.means l.rows) (lists l.environments)) (reverse l.tasks.items)
