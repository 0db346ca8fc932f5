use Rattle.stated_roots.proofs.TypingLaws.{closed, read}
use Rattle.stated_roots.proofs.terms.types_row.Goals as goal

pub context-requires : goal.context-requires
context-requires c =
    let r = read c.args.book.now c.args.node.0 c.in-Tm.ctx c.in-Tm.typed c.in-Tm.field-2 c.in-Tm.ensures (c.is_node.ensures.concludes.0 c.if-not-is_node.false) in
    (r.2.G, r.2.ctx_is)

pub same_tree-requires-clause-left : goal.same_tree-requires-clause-left
same_tree-requires-clause-left c =
    let r = read c.args.book.now c.args.node.0 c.in-Tm.ctx c.in-Tm.typed c.in-Tm.field-2 c.in-Tm.ensures (c.is_node.ensures.concludes.0 c.if-not-is_node.false) in
    (r.2.t, r.2.term_is)
