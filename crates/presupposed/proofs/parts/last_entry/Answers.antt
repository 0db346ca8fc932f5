use Rattle.std.proofs.Common.{[]}
use Rattle.trees.specs.Language.{Ctx}
use Rattle.book.specs.Shown.{book_concludes}
use Rattle.typed_nodes.proofs.TypeLaws.{is_node}
use Rattle.presupposed.proofs.FillLaws.{first_said, opened_context, some_said}
use Rattle.presupposed.proofs.parts.last_entry.Goals as goal

pub step-requires : goal.step-requires
step-requires c =
    let (G, J, says, sight, e) = c.requires in
    is_node c.args.book.now c.args.ctx (Ctx G) says

pub bounds-premises-0 : goal.bounds-premises-0
bounds-premises-0 c =
    let (G, J, says, sight, e) = c.requires in
    let s = c.step.result in
    some_said (book_concludes c.args.book.now) s.premises.now J [] (opened_context c.args.book.now s.rule s.parts.now s.premises.now c.args.label G J (c.step.ensures.right (Ctx G) says) sight e)

pub returns : goal.returns
returns c = λ G J says sight e.
    let s = c.step.result in
    first_said (book_concludes c.args.book.now) s.premises.now J [] (opened_context c.args.book.now s.rule s.parts.now s.premises.now c.args.label G J (c.step.ensures.right (Ctx G) says) sight e)
