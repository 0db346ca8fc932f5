use Rattle.std.proofs.Common.{◌≡◌, rules}
use Rattle.std.specs.List.{remove}
use Rattle.antichains.proofs.Exact.{IsExactOrder}
use Rattle.antichains.proofs.Searching.{removed, not_removed, not_found}
use Rattle.antichains.proofs.sorted.without.Goals as goal
use Rattle.antichains.proofs.sorted.without.Goals.{in-Ok, in_default}

pub returns-clause-sorted : goal.returns-clause-sorted
returns-clause-sorted g c =
    let o : IsExactOrder g.T.Ord.cmp = record { total = g.met.T.Ord.total; exact = g.met.T.Element.exact } in
    elim c.match-binary_search.branch [
      | in-Ok w ↦
          let e : c.match-binary_search.rest.items ≡ remove c.args.list.now w.in-Ok.place = search rules in
          rw e (removed o c.args.list.now c.args.element w.in-Ok.place w.in-Ok.ensures.bound w.in-Ok.ensures.ok c.requires).0
      | in_default w ↦
          let e : c.match-binary_search.rest.items ≡ c.args.list.now = search rules in
          rw e c.requires
    ]

pub returns-clause-rest : goal.returns-clause-rest
returns-clause-rest g c =
    let o : IsExactOrder g.T.Ord.cmp = record { total = g.met.T.Ord.total; exact = g.met.T.Element.exact } in
    elim c.match-binary_search.branch [
      | in-Ok w ↦
          let e : c.match-binary_search.rest.items ≡ remove c.args.list.now w.in-Ok.place = search rules in
          rw e (removed o c.args.list.now c.args.element w.in-Ok.place w.in-Ok.ensures.bound w.in-Ok.ensures.ok c.requires).1
      | in_default w ↦
          let e : c.match-binary_search.rest.items ≡ c.args.list.now = search rules in
          rw e (not_removed o c.args.list.now c.args.element (not_found o c.args.list.now c.args.element w.in_default.field-0 c.requires w.in_default.ensures.position))
    ]
