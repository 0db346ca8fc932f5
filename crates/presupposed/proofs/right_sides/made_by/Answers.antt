use Rattle.std.proofs.Common.{sym, subst}
use Rattle.book.specs.Right.{IsMadeBy, IsUse}
use Rattle.book.specs.Shown.{book_concludes, book_means, book_nodes}
use Rattle.typed_nodes.proofs.TypeLaws.{is_node}
use Rattle.presupposed.proofs.FillLaws.{parts_few, premises_few}
use Rattle.presupposed.proofs.right_sides.made_by.Goals as goal

pub step-step-requires : goal.step-step-requires
step-step-requires c = is_node c.args.book.now c.args.node c.requires.0 c.requires.1

pub of-requires : goal.of-requires
of-requires c =
    let s = c.step-step.result in
    parts_few c.args.book.now s.rule s.parts.now s.premises.now c.requires.0 (c.step-step.ensures.right c.requires.0 c.requires.1)

pub of-requires-2 : goal.of-requires-2
of-requires-2 c =
    let s = c.step-step.result in
    premises_few c.args.book.now s.rule s.parts.now s.premises.now c.requires.0 (c.step-step.ensures.right c.requires.0 c.requires.1)

pub returns-clause-made : goal.returns-clause-made
returns-clause-made c =
    let s = c.step-step.result in
    subst (λ ps. IsMadeBy s.rule ps c.of-2.result (book_nodes c.args.book.now c.args.node.0)) (sym c.of.ensures)
    (subst (λ ps. IsMadeBy s.rule s.parts.now ps (book_nodes c.args.book.now c.args.node.0)) (sym c.of-2.ensures) c.step-step.ensures.made)

pub returns-clause-right : goal.returns-clause-right
returns-clause-right c = λ J says.
    let s = c.step-step.result in
    let b = c.args.book.now in
    subst (λ ps. IsUse (book_means b) (book_concludes b) s.rule ps c.of-2.result J) (sym c.of.ensures)
    (subst (λ ps. IsUse (book_means b) (book_concludes b) s.rule s.parts.now ps J) (sym c.of-2.ensures) (c.step-step.ensures.right J says))
