use Rattle.std.proofs.Common.{◌∙◌, ap}
use Rattle.std.specs.Prelude.{option_and_then}
use Rattle.trees.specs.declared.op.Op.TheVariants as op
use Rattle.trees.specs.Trees.{Var}
use Rattle.trees.specs.Things.{ATree, meanings, with_a_name}
use Rattle.book.specs.Shown.{book_means}
use Rattle.book_tests.proofs.RunLaws.{made-of-one}
use Rattle.kan_tests.proofs.TestLaws.{parts-are}
use Rattle.kan_tests.proofs.calls.parts.Goals as goal

pub returns : goal.returns
returns c =
    let book = c.make-3.new.self in
    let ctx = c.in_ok-ctx.ensures.meaning ∙ ap (option_and_then with_a_name) c.in_ok-empty.ensures.meaning in
    let end = c.in_ok-end.ensures.meaning in
    let face = c.in_ok-face.ensures.meaning ∙ made-of-one (book_means c.var.new.self) op.Eq0 c.in_ok-end.end (ATree (Var 0)) end in
    let to_end = c.var.ensures.kept.keeps in
    let to_face = c.make.ensures.kept.keeps in
    let to_line = c.make-2.ensures.kept.keeps in
    let to_base = c.make-3.ensures.kept.keeps in
    ap (meanings (book_means book)) c.of.ensures
    ∙ parts-are (book_means book) c.in_ok-ctx.ctx c.in_ok-line.line c.in_ok-face.face c.in_ok-base.base c.in_ok-end.end
    (to_base _ _ (to_line _ _ (to_face _ _ (to_end _ _ ctx))))
    (to_base _ _ c.in_ok-line.ensures.meaning)
    (to_base _ _ (to_line _ _ face))
    c.in_ok-base.ensures.meaning
    (to_base _ _ (to_line _ _ (to_face _ _ end)))
