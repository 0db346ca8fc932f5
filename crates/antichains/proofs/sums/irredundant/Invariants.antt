use Rattle.antichains.specs.Reductions.{IsReduced}
use Rattle.antichains.proofs.sums.irredundant.Given as goal

abbrev pub invariant-loop-product : goal.invariant-loop-product
invariant-loop-product g l = IsReduced g.T.Ord.cmp l.kept.items l.yielded
