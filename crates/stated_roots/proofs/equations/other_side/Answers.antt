use Rattle.std.proofs.Common.{◌≡◌, subst}
use Rattle.rows.specs.declared.views.TermId.{TermId}
use Rattle.stated_roots.specs.Equations.{EquatesClosed}
use Rattle.stated_roots.proofs.EquationLaws.{closed, read}
use Rattle.stated_roots.proofs.equations.other_side.Goals as goal

pub context-requires : goal.context-requires
context-requires c =
    let r = read c.args.book.now c.args.equation.0 c.in-TmEq.ctx c.in-TmEq.left c.in-TmEq.right c.in-TmEq.ty c.in-TmEq.ensures (c.is_node.ensures.concludes.0 c.if-not-is_node.false) in
    (r.2.G, r.2.ctx_is)

pub returns : goal.returns
returns c = λ right is.
    let r : TermId = record { 0 = c.in-TmEq.right } in
    let same : r ≡ right = cc in
    subst (λ (x : TermId). EquatesClosed c.args.book.now c.args.equation.0 c.args.typing.0 x.0) same
    (closed c.args.book.now c.args.equation.0 c.args.typing.0 c.in-TmEq.ctx c.in-TmEq.left c.in-TmEq.right c.in-TmEq.ty c.conclusion-2.result c.in-TmEq.ensures (c.is_node.ensures.concludes.0 c.if-not-is_node.false)
    c.in-Nil.ensures.meaning c.conclusion-2.ensures (c.in_ok-same_claim.ensures.0 c.if-not-branch.false))
