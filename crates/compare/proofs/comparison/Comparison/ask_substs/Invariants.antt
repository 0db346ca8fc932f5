use Rattle.std.proofs.Common.{◌≡◌}
use Rattle.closures.specs.Shown.{lists}
use Rattle.closures.specs.Substs.{subst_closure_meaning}
use Rattle.compare.proofs.SubstAskLaws.{Substs, trees_in}
use Rattle.compare.proofs.comparison.Comparison.ask_substs.Given as goal

-- two closures are left to compare
abbrev pub invariant-loop-left : goal.invariant-loop-left
invariant-loop-left g l =
    let f = g.R.Rows.means l.rows in
    Substs f (lists l.fn.self.environments) (f l.fn.left ≡ f l.fn.right) l.fn.self.pairs.keys (lists l.self.environments) l.left l.right l.self.pairs.keys

-- the trees of the left one
abbrev pub decreases-loop-left : goal.decreases-loop-left
decreases-loop-left g l = trees_in (subst_closure_meaning (g.R.Rows.means l.rows) (lists l.self.environments) l.left)
