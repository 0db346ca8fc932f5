use Rattle.std.proofs.Common.{rules, sym, ◌∙◌}
use Rattle.std.proofs.lemmas.Bool.{both_ways}
use Rattle.std.proofs.lemmas.List.{map-id}
use Rattle.std.proofs.lemmas.Iterator.Adapters.{YieldsList-from_vec}
use Rattle.std.proofs.lemmas.Iterator.Consumers.{YieldsList-so_far, YieldsList-turn}
use Rattle.antichains.proofs.Exact.{IsExactOrder}
use Rattle.antichains.proofs.Reduced.{reduced_nil, reduced_skip, reduced_push, none_longer}
use Rattle.antichains.proofs.sums.irredundant.Goals as goal

pub loop-product-init : goal.loop-product-init
loop-product-init g c = rw c.new-kept.ensures.items (reduced_nil g.T.Ord.cmp)

pub loop-product-preserved-in-Continue-1 : goal.loop-product-preserved-in-Continue-1
loop-product-preserved-in-Continue-1 g c =
    let o : IsExactOrder g.T.Ord.cmp = record { total = g.met.T.Ord.total; exact = g.met.T.Element.exact } in
    let road = YieldsList-from_vec {s = c.into_iter-product-iterator.result} c.args.products.items c.into_iter-product-iterator.ensures.into_iter_gives.0 (search rules) in
    let so_far = sym (map-id c.loop-product.yielded) ∙ YieldsList-so_far road c.loop-product.yielded c.loop-product.product-iterator c.loop-product.yielded_by in
    let turn = YieldsList-turn road c.loop-product.yielded c.loop-product.product-iterator c.loop-product.yielded_by c.next.result c.next.new.self c.in-Some.product c.in-Some.is c.next.ensures.steps in
    let found = rw c.deref.ensures.value at c.has_one_within.ensures in
    rw c.in_ok-push.ensures.items
    (reduced_push o c.loop-product.kept.items c.loop-product.yielded c.in-Some.product c.loop-product.invariant
    (rw c.product.view_is at c.product.invariant)
    (λ ys h w. both_ways c.has_one_within.result c.if-not-has_one_within.true (found.1 (h.0, ys, h.1, h.2, w)))
    (λ ys h. none_longer c.args.products.items c.loop-product.yielded c.in-Some.product c.requires so_far turn ys (c.loop-product.invariant.covers.among ys h)))

pub loop-product-preserved : goal.loop-product-preserved
loop-product-preserved g c =
    let found = rw c.deref.ensures.value at c.has_one_within.ensures in
    let one = found.0 c.if-not-has_one_within.false in
    reduced_skip g.T.Ord.cmp c.loop-product.kept.items c.loop-product.yielded c.in-Some.product c.loop-product.invariant
    (one.1, (one.0, one.2, one.3), one.4)
