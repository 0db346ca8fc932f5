use Rattle.antichains.proofs.Exact.{IsExactOrder}
use Rattle.antichains.proofs.Normal.{same_products, same_truths}
use Rattle.antichains.proofs.sums.Antichain.same.Goals as goal

pub returns-clause-lists : goal.returns-clause-lists
returns-clause-lists g c =
    let o : IsExactOrder g.T.Ord.cmp = record { total = g.met.T.Ord.total; exact = g.met.T.Element.exact } in
    same_products o g.T.PartialEq.eq g.met.T.Ord.matches_eq c.args.self.now c.args.other.now c.eq.result
    (rw (← c.self.view_is, ← c.other.view_is) c.eq.ensures)

pub returns-clause-truth : goal.returns-clause-truth
returns-clause-truth g c =
    let o : IsExactOrder g.T.Ord.cmp = record { total = g.met.T.Ord.total; exact = g.met.T.Element.exact } in
    same_truths o c.args.self.now c.args.other.now c.eq.result
    (rw (← c.self.view_is) c.self.invariant)
    (rw (← c.other.view_is) c.other.invariant)
    (same_products o g.T.PartialEq.eq g.met.T.Ord.matches_eq c.args.self.now c.args.other.now c.eq.result
    (rw (← c.self.view_is, ← c.other.view_is) c.eq.ensures))
