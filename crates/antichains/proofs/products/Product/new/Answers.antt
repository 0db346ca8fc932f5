use Rattle.antichains.proofs.Ordered.{sorted_nil}
use Rattle.antichains.proofs.products.Product.new.Goals as goal

pub invariant_of-result : goal.invariant_of-result
invariant_of-result g c = rw c.new.ensures.items (sorted_nil g.T.Ord.cmp)
