use Rattle.std.proofs.Common.{arith}
use Rattle.antichains.proofs.Exact.{IsExactOrder}
use Rattle.antichains.proofs.Seeking.{all_found, one_missing, at_end}
use Rattle.antichains.proofs.sorted.contains_all.Goals as goal

pub returns-then-found-wanted : goal.returns-then-found-wanted
returns-then-found-wanted g c =
    let o : IsExactOrder g.T.Ord.cmp = record { total = g.met.T.Ord.total; exact = g.met.T.Element.exact } in
    all_found o c.args.list.now c.args.wanted.now c.loop-element.element-index c.loop-element.found c.requires.list_sorted c.requires.wanted_sorted c.loop-element.invariant.as_before c.if-found-wanted.true

pub returns-in-Greater : goal.returns-in-Greater
returns-in-Greater g c =
    let o : IsExactOrder g.T.Ord.cmp = record { total = g.met.T.Ord.total; exact = g.met.T.Element.exact } in
    one_missing o c.args.list.now c.args.wanted.now c.loop-element.element-index c.loop-element.found c.requires.list_sorted c.requires.wanted_sorted c.loop-element.invariant.as_before c.element-item.result c.index-wanted-found.result c.loop-element-test.true (omega arith) c.element-item.is c.index-wanted-found.is c.in-Greater.ensures

pub returns : goal.returns
returns g c =
    let o : IsExactOrder g.T.Ord.cmp = record { total = g.met.T.Ord.total; exact = g.met.T.Element.exact } in
    at_end o c.args.list.now c.args.wanted.now c.loop-element.element-index c.loop-element.found c.requires.list_sorted c.requires.wanted_sorted c.loop-element.invariant.as_before c.loop-element-test.false c.loop-element.invariant.in_range
