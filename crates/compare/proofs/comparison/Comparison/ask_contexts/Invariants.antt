use Rattle.std.proofs.Common.{◌≡◌}
use Rattle.closures.specs.Shown.{lists}
use Rattle.compare.proofs.ContextLaws.{ContextWalk}
use Rattle.compare.proofs.comparison.Comparison.ask_contexts.Given as goal

-- the entries that are left are the same exactly where the pairs that were asked for agree
abbrev pub invariant-loop-left : goal.invariant-loop-left
invariant-loop-left g l = record {
  same : l.self.environments ≡ l.fn.self.environments;
  walk : ContextWalk (g.R.Rows.means l.rows) (lists l.fn.self.environments) (g.R.Rows.means l.rows l.fn.left ≡ g.R.Rows.means l.rows l.fn.right) l.fn.self.pairs.keys l.left.0 l.right.0 l.self.pairs.keys;
}

abbrev pub decreases-loop-left : goal.decreases-loop-left
decreases-loop-left g l = l.left.0
