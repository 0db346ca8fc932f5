use Rattle.closures.specs.Shown.{lists}
use Rattle.compare.proofs.ClaimAskLaws.{Claims}
use Rattle.compare.proofs.comparison.Comparison.same_claim.Given as goal

-- the rows from this place on are left to compare
abbrev pub invariant-loop-at : goal.invariant-loop-at
invariant-loop-at g l = Claims (g.R.Rows.means l.rows) (lists l.self.environments) l.fn.left l.fn.right l.kind-items l.at l.self.pairs.keys
