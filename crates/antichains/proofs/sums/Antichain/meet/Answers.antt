use Rattle.std.proofs.Common.{◌≡◌, ◌&&◌, Bool, List, ap, ◌∙◌}
use Rattle.std.proofs.lemmas.Result.{IfOk-weaker}
use Rattle.antichains.specs.Antichains.{HaveSameTruth, some_all}
use Rattle.std.proofs.lemmas.List.{take_all}
use Rattle.antichains.proofs.Truth.{meet_more, meet_each}
use Rattle.antichains.proofs.sums.Antichain.meet.Goals as goal

pub loop-right-preserved : goal.loop-right-preserved
loop-right-preserved g c test =
    meet_more test c.deref-left-items.result.now c.deref-right-items.result.now c.loop-left.products.items c.loop-right.products.items c.push.new.self.items c.loop-right.right-index c.left-item.result c.right-item.result c.in_ok-merged.field-0 c.loop-right-test.true c.right-item.is c.in_ok-merged.ensures c.in_ok-push.ensures.items (c.loop-right.invariant test)

pub loop-left-preserved : goal.loop-left-preserved
loop-left-preserved g c test =
    let right : c.deref-right-items.result.now ≡ c.args.other.now = c.deref-right-items.ensures.value ∙ c.other.view_is in
    let so_far = rw (← right) at (c.loop-left.invariant test) in
    rw (← right)
    (meet_each test c.deref-left-items.result.now c.deref-right-items.result.now c.loop-left.products.items c.loop-right.products.items c.loop-left.left-index c.loop-right.right-index c.left-item.result c.loop-left-test.true c.left-item.is c.loop-right-test.false so_far (c.loop-right.invariant test))

pub returns : goal.returns
returns g c =
    let Sum : Type 0 = List (List g.row.T.Denot) in
    let Meets : Sum → Type 0 = λ sum. (test : g.row.T.Denot → Bool) → some_all test sum ≡ (some_all test c.args.self.now && some_all test c.args.other.now) in
    let left = take_all c.loop-left.left-index c.deref-left-items.result.now c.loop-left-test.false ∙ c.deref-left-items.ensures.value ∙ c.self.view_is in
    IfOk-weaker c.from_products.result (λ sum. HaveSameTruth sum c.loop-left.products.items) Meets
    (λ sum says test. says test ∙ c.loop-left.invariant test ∙ ap (λ xs. some_all test xs && some_all test c.args.other.now) left)
    c.from_products.ensures.truth
