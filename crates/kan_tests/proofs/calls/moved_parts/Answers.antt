use Rattle.std.proofs.Common.{◌∙◌, ap}
use Rattle.std.specs.Prelude.{option_and_then}
use Rattle.trees.specs.declared.op.Op.TheVariants as op
use Rattle.trees.specs.Trees.{Var}
use Rattle.trees.specs.Things.{ATree, meanings, with_a_name}
use Rattle.trees.specs.Judgements.{trees}
use Rattle.rules.specs.Table.{nat}
use Rattle.book.specs.Shown.{book_means}
use Rattle.book_tests.proofs.RunLaws.{made-of-one, made-of-two}
use Rattle.kan_tests.proofs.TestLaws.{moved-parts-are}
use Rattle.kan_tests.proofs.calls.moved_parts.Goals as goal

pub returns : goal.returns
returns c =
    let book = c.make-4.new.self in
    let ctx = c.in_ok-ctx.ensures.meaning ∙ ap (option_and_then with_a_name) c.in_ok-empty.ensures.meaning in
    let to_line = c.make.ensures.kept.keeps in
    let to_end = c.var.ensures.kept.keeps in
    let to_same = c.make-2.ensures.kept.keeps in
    let to_face = c.make-3.ensures.kept.keeps in
    let to_base = c.make-4.ensures.kept.keeps in
    let line = to_end c.in_ok-line.line (ATree (nat trees)) c.in_ok-line.ensures.meaning in
    let end = c.in_ok-end.ensures.meaning in
    let same = c.in_ok-same.ensures.meaning ∙ made-of-two (book_means c.var.new.self) op.Lam c.in_ok-line.line c.in_ok-end.end (ATree (nat trees)) (ATree (Var 0)) line end in
    let face = c.in_ok-face.ensures.meaning ∙ made-of-one (book_means c.make-2.new.self) op.Eq0 c.in_ok-end.end (ATree (Var 0)) (to_same _ _ end) in
    ap (meanings (book_means book)) c.of.ensures
    ∙ moved-parts-are (book_means book) c.in_ok-ctx.ctx c.in_ok-line.line c.in_ok-same.same c.in_ok-face.face c.in_ok-base.base
    (to_base _ _ (to_face _ _ (to_same _ _ (to_end _ _ (to_line _ _ ctx)))))
    (to_base _ _ (to_face _ _ (to_same _ _ line)))
    (to_base _ _ (to_face _ _ same))
    (to_base _ _ face)
    c.in_ok-base.ensures.meaning
