use Rattle.std.proofs.Common.{◌∙◌, false, length, ap, arith}
use Rattle.std.proofs.lemmas.List.{with_items_is, length-replicate}
use Rattle.book_writer.proofs.NeededLaws.{counted-from, needed-as}
use Rattle.book_writer.proofs.needed.needed_by.Goals as goal

pub mark_needed-requires-clause-count : goal.mark_needed-requires-clause-count
mark_needed-requires-clause-count c =
    counted-from c.args.book.now _ _ c.mark-held.result.rows c.mark-held.result.nodes c.mark-held.ensures.rows c.mark-held.ensures.nodes
    (ap length (c.deref_mut.ensures.value ∙ c.in_ok-rows.ensures.items_if_clones_equal (λ y same. same)) ∙ length-replicate c.mark-held.result.rows false)
    (ap length (c.deref_mut-2.ensures.value ∙ c.in_ok-nodes.ensures.items_if_clones_equal (λ y same. same)) ∙ length-replicate c.mark-held.result.nodes false)

pub returns : goal.returns
returns c =
    let b = c.args.book.now in
    let rows = with_items_is c.in_ok-rows.rows c.mark_needed.new.rows (omega (arith, c.mark_needed.ensures.row_count, ap length c.deref_mut.ensures.value, c.in_ok-rows.ensures.len)) in
    let nodes = with_items_is c.in_ok-nodes.nodes c.mark_needed.new.nodes (omega (arith, c.mark_needed.ensures.node_count, ap length c.deref_mut-2.ensures.value, c.in_ok-nodes.ensures.len)) in
    needed-as b c.args.roots.now c.mark_needed.new.rows c.mark_needed.new.nodes _ _ rows nodes c.mark_needed.ensures.needed
