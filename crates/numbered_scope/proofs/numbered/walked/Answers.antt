use Rattle.std.proofs.Common.{get_or, ◌==◌, Some, None, ◌∙◌, ap, if◌then◌else◌}
use Rattle.numbered_scope.specs.declared.numbered.Numbered.{Numbered}
use Rattle.numbered_scope.specs.Newest.{later}
use Rattle.numbered_scope.proofs.Searches.{newest_more}
use Rattle.numbered_scope.proofs.numbered.walked.Goals as goal

pub loop-item-preserved : goal.loop-item-preserved
loop-item-preserved g c =
    let items = c.args.items.now in
    let at = c.loop-item.item-index in
    let n = c.args.number in
    c.newer-found.ensures
    ∙ ap (λ (x : Numbered g.row.T.Denot). later c.loop-item.found (if x.number == n then Some x.value else None)) c.item-item.is
    ∙ ap (λ o. later o (if (get_or items at c.item-item.result).number == n then Some (get_or items at c.item-item.result).value else None)) c.loop-item.invariant
    ∙ newest_more items at n c.item-item.result c.loop-item-test.true
