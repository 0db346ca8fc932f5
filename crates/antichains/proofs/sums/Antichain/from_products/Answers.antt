use Rattle.std.proofs.Common.{length, rules}
use Rattle.std.proofs.lemmas.List.Sorted.{IsNonDecreasingBy-from_sort_by_key}
use Rattle.antichains.proofs.Exact.{IsExactOrder}
use Rattle.antichains.proofs.Reduced.{normal_from_reduced}
use Rattle.antichains.proofs.Normal.{truth_kept, kept_among}
use Rattle.antichains.proofs.sums.Antichain.from_products.Goals as goal

pub irredundant-requires : goal.irredundant-requires
irredundant-requires g c =
    IsNonDecreasingBy-from_sort_by_key length _ c.sort_unstable_by_key.ensures.sorted (λ a r q k. search rules)

pub invariant_of-result : goal.invariant_of-result
invariant_of-result g c =
    let o : IsExactOrder g.T.Ord.cmp = record { total = g.met.T.Ord.total; exact = g.met.T.Element.exact } in
    (normal_from_reduced o c.in_ok-kept.kept.items c.sort_unstable.new.self.items c.sort_unstable_by_key.new.self.items c.in_ok-kept.ensures c.sort_unstable.ensures.permutation c.sort_unstable.ensures.sorted).0

pub returns-clause-truth : goal.returns-clause-truth
returns-clause-truth g c =
    let o : IsExactOrder g.T.Ord.cmp = record { total = g.met.T.Ord.total; exact = g.met.T.Element.exact } in
    truth_kept o c.args.products.items c.sort_unstable_by_key.new.self.items c.in_ok-kept.kept.items c.sort_unstable.new.self.items c.sort_unstable_by_key.ensures.permutation c.in_ok-kept.ensures c.sort_unstable.ensures.permutation c.sort_unstable.ensures.sorted

pub returns-clause-among : goal.returns-clause-among
returns-clause-among g c =
    kept_among c.args.products.items c.sort_unstable_by_key.new.self.items c.in_ok-kept.kept.items c.sort_unstable.new.self.items c.sort_unstable_by_key.ensures.permutation c.in_ok-kept.ensures.covers c.sort_unstable.ensures.permutation
