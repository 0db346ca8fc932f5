use Rattle.antichains.proofs.Normal.{normal_nil}
use Rattle.antichains.proofs.sums.Antichain.new.Goals as goal

pub invariant_of-result : goal.invariant_of-result
invariant_of-result g c = rw c.new.ensures.items (normal_nil g.T.Ord.cmp)
