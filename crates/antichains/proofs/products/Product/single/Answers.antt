use Rattle.std.proofs.Common.{◌≡◌, [], ◌∷◌, rules}
use Rattle.antichains.proofs.Ordered.{sorted_one}
use Rattle.antichains.proofs.products.Product.single.Goals as goal

pub invariant_of-result : goal.invariant_of-result
invariant_of-result g c =
    let e : c.push.new.self.items ≡ c.args.element ∷ [] = search rules in
    rw e (sorted_one g.T.Ord.cmp c.args.element)
