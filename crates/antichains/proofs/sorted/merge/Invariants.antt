use Rattle.std.proofs.Common.{◌≤◌, ◌+◌, ◌-◌, length, drop}
use Rattle.antichains.proofs.Merging.{IsMerging}
use Rattle.antichains.proofs.sorted.merge.Given as goal

abbrev pub invariant-loop-i : goal.invariant-loop-i
invariant-loop-i g l = record {
  left_in_range : l.i ≤ length l.left;
  right_in_range : l.j ≤ length l.right;
  merging : IsMerging g.T.Ord.cmp l.left l.right l.union.items (drop l.i l.left) (drop l.j l.right);
}

abbrev pub decreases-loop-i : goal.decreases-loop-i
decreases-loop-i g l = (length l.left - l.i) + (length l.right - l.j)
