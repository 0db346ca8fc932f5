use Rattle.std.proofs.Common.{◌∙◌, ap}
use Rattle.trees.specs.declared.op.Op.TheVariants as op
use Rattle.trees.specs.Trees.{Var}
use Rattle.trees.specs.Things.{ATree, meanings}
use Rattle.book.specs.Shown.{book_means}
use Rattle.book_tests.proofs.RunLaws.{made-of-one}
use Rattle.recipe_runner.proofs.RunLaws.{extends-further}
use Rattle.kan_tests.proofs.TestLaws.{raised-parts-are}
use Rattle.kan_tests.proofs.calls.raised_parts.Goals as goal

pub returns-clause-parts : goal.returns-clause-parts
returns-clause-parts c =
    let book = c.make-3.new.self in
    let to_ty = c.make.ensures.kept.keeps in
    let to_point = c.make-2.ensures.kept.keeps in
    let to_equivalence = c.var.ensures.kept.keeps in
    let to_element = c.var-2.ensures.kept.keeps in
    let to_end = c.var-3.ensures.kept.keeps in
    let to_face = c.make-3.ensures.kept.keeps in
    ap (meanings (book_means book)) c.of.ensures
    ∙ raised-parts-are (book_means book) c.args.ctx c.in_ok-ty.ty c.in_ok-equivalence.equivalence c.in_ok-face.face c.in_ok-element.element c.in_ok-point.point
    (to_face _ _ (to_end _ _ (to_element _ _ (to_equivalence _ _ (to_point _ _ (to_ty _ _ c.requires))))))
    (to_face _ _ (to_end _ _ (to_element _ _ (to_equivalence _ _ (to_point _ _ c.in_ok-ty.ensures.meaning)))))
    (to_face _ _ (to_end _ _ (to_element _ _ c.in_ok-equivalence.ensures.meaning)))
    (c.in_ok-face.ensures.meaning ∙ made-of-one (book_means c.var-3.new.self) op.Eq0 c.in_ok-end.end (ATree (Var 2)) c.in_ok-end.ensures.meaning)
    (to_face _ _ (to_end _ _ c.in_ok-element.ensures.meaning))
    (to_face _ _ (to_end _ _ (to_element _ _ (to_equivalence _ _ c.in_ok-point.ensures.meaning))))

pub returns-clause-extends : goal.returns-clause-extends
returns-clause-extends c =
    extends-further c.args.book.now c.var-3.new.self c.make-3.new.self (extends-further c.args.book.now c.var-2.new.self c.var-3.new.self (extends-further c.args.book.now c.var.new.self c.var-2.new.self (extends-further c.args.book.now c.make-2.new.self c.var.new.self (extends-further c.args.book.now c.make.new.self c.make-2.new.self (c.make.ensures.extends) c.make-2.ensures.extends) c.var.ensures.extends) c.var-2.ensures.extends) c.var-3.ensures.extends) c.make-3.ensures.extends
