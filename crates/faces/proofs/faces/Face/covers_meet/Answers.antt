use Rattle.std.proofs.Common.{[], ◌∷◌, refl, sym, ◌∙◌}
use Rattle.std.proofs.lemmas.Bool.{false≢true}
use Rattle.std.proofs.lemmas.List.{take_all}
use Rattle.faces.proofs.Joined.{item_at}
use Rattle.faces.proofs.Meeting.{enough_for_none, enough_of_none, enough_implied, enough_row, covers_at_end, implied_by_none, never_covers}
use Rattle.faces.proofs.faces.Face.covers_meet.Goals as goal

pub loop-first-init : goal.loop-first-init
loop-first-init c = enough_for_none c.args.self.now c.args.right.now []

pub loop-second-init : goal.loop-second-init
loop-second-init c = record {
  rows = c.loop-first.invariant;
  row = enough_of_none c.args.self.now (c.first-item.result ∷ []) [];
}

pub returns-then-is_some : goal.returns-then-is_some
returns-then-is_some c =
    let in_left = item_at c.args.left.now c.products-first-items.result.now c.loop-first.first-index c.first-item.result (c.products-first-items.ensures.value ∙ c.left.view_is) c.loop-first-test.true c.first-item.is in
    let in_right = item_at c.args.right.now c.products-second-items.result.now c.loop-second.second-index c.second-item.result (c.products-second-items.ensures.value ∙ c.right.view_is) c.loop-second-test.true c.second-item.is in (
      λ never. absurd (false≢true never),
      λ covers. absurd (never_covers c.args.self.now c.args.left.now c.args.right.now c.first-item.result c.second-item.result c.in_ok-merge_outside.field-0 in_left in_right c.in_ok-merge_outside.ensures (sym c.is_some.ensures ∙ c.if-is_some.true) covers),
    )

pub loop-second-preserved : goal.loop-second-preserved
loop-second-preserved c = record {
  rows = c.loop-second.invariant.rows;
  row = enough_implied c.args.self.now c.products-second-items.result.now c.loop-second.second-index c.first-item.result c.second-item.result c.loop-second-test.true c.second-item.is [] c.loop-second.invariant.row
      (implied_by_none c.first-item.result c.second-item.result c.args.self.now c.in_ok-merge_outside.field-0 c.in_ok-merge_outside.ensures (sym c.is_some.ensures ∙ c.if-is_some.false));
}

pub loop-first-preserved : goal.loop-first-preserved
loop-first-preserved c =
    let right = c.products-second-items.ensures.value ∙ c.right.view_is in
    rw (← right)
    (enough_row c.args.self.now c.products-first-items.result.now c.products-second-items.result.now [] c.loop-first.first-index c.loop-second.second-index c.first-item.result c.loop-first-test.true c.first-item.is c.loop-second-test.false
    (rw right c.loop-second.invariant.rows)
    c.loop-second.invariant.row)

pub returns : goal.returns
returns c =
    let all = take_all c.loop-first.first-index c.products-first-items.result.now c.loop-first-test.false ∙ c.products-first-items.ensures.value ∙ c.left.view_is in
    let rows = rw all at c.loop-first.invariant in
    (λ h. covers_at_end c.args.self.now c.args.left.now c.args.right.now rows, λ h. refl)
