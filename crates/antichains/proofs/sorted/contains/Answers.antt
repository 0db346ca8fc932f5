use Rattle.antichains.proofs.Exact.{IsExactOrder}
use Rattle.antichains.proofs.Searching.{searched}
use Rattle.antichains.proofs.sorted.contains.Goals as goal

pub returns : goal.returns
returns g c =
    let o : IsExactOrder g.T.Ord.cmp = record { total = g.met.T.Ord.total; exact = g.met.T.Element.exact } in
    rw c.is_ok.ensures.value (searched o c.args.list.now c.args.element c.binary_search.result c.requires c.binary_search.ensures.bound c.binary_search.ensures.position)
