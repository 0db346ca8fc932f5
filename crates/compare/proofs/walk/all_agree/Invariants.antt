use Rattle.std.proofs.Common.{drop}
use Rattle.closures.specs.Shown.{lists}
use Rattle.compare.specs.Pairs.{pair_size}
use Rattle.compare.proofs.WalkLaws.{sum_of}
use Rattle.compare.proofs.AgreeLaws.{Walk}
use Rattle.compare.proofs.walk.all_agree.Given as goal

-- the pairs in front are opened
abbrev pub invariant-loop-at : goal.invariant-loop-at
invariant-loop-at g l = Walk (g.R.Rows.means l.rows) (lists l.fn.environments) l.fn.pairs.keys (lists l.environments) l.at l.pairs.keys

-- what is left to open
abbrev pub decreases-loop-at : goal.decreases-loop-at
decreases-loop-at g l = sum_of (pair_size (g.R.Rows.means l.rows) (lists l.environments)) (drop l.at l.pairs.keys)
