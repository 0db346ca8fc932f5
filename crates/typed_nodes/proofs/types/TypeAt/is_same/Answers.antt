use Rattle.std.proofs.Common.{refl, sym}
use Rattle.trees.specs.Things.{ATree}
use Rattle.recipe_runner.proofs.RunLaws.{extends-further}
use Rattle.typed_nodes.proofs.GrowthLaws.{type_at_later}
use Rattle.typed_nodes.proofs.TypeLaws.{one_tree, same_trees}
use Rattle.typed_nodes.proofs.types.TypeAt.is_same.Goals as goal

pub returns-then-eq-clause-same : goal.returns-then-eq-clause-same
returns-then-eq-clause-same c = λ H A B left right.
    (λ yes. one_tree c.args.book.now c.args.self c.args.other H A B (sym c.if-eq.ensures) left right, λ e. refl)

pub row-requires : goal.row-requires
row-requires c =
    let (H, A, B, left, right) = c.requires in
    (H, A, left)

pub row-requires-2 : goal.row-requires-2
row-requires-2 c =
    let (H, A, B, left, right) = c.requires in
    (H, B, type_at_later c.args.book.now c.row.new.book c.args.other H B c.in_ok-left.ensures.extends right)

pub same_tree-requires-clause-left : goal.same_tree-requires-clause-left
same_tree-requires-clause-left c =
    let (H, A, B, left, right) = c.requires in
    (A, c.in_ok-right.ensures.extends.rows.keeps c.in_ok-left.left (ATree A) (c.in_ok-left.ensures.meaning H A left))

pub same_tree-requires-clause-right : goal.same_tree-requires-clause-right
same_tree-requires-clause-right c =
    let (H, A, B, left, right) = c.requires in
    (B, c.in_ok-right.ensures.meaning H B (type_at_later c.args.book.now c.row.new.book c.args.other H B c.in_ok-left.ensures.extends right))

pub returns-clause-same : goal.returns-clause-same
returns-clause-same c = λ H A B left right.
    same_trees _ _ _ A B c.in_ok-same_tree.ensures
    (c.in_ok-right.ensures.extends.rows.keeps c.in_ok-left.left (ATree A) (c.in_ok-left.ensures.meaning H A left))
    (c.in_ok-right.ensures.meaning H B (type_at_later c.args.book.now c.row.new.book c.args.other H B c.in_ok-left.ensures.extends right))

pub returns-in_err-right-clause-extends : goal.returns-in_err-right-clause-extends
returns-in_err-right-clause-extends c = extends-further c.args.book.now c.row.new.book c.row-2.new.book c.in_ok-left.ensures.extends c.row-2.ensures.extends

pub returns-in_err-same_tree-clause-extends : goal.returns-in_err-same_tree-clause-extends
returns-in_err-same_tree-clause-extends c = extends-further c.args.book.now c.row.new.book c.row-2.new.book c.in_ok-left.ensures.extends c.in_ok-right.ensures.extends

pub returns-clause-extends : goal.returns-clause-extends
returns-clause-extends c = extends-further c.args.book.now c.row.new.book c.row-2.new.book c.in_ok-left.ensures.extends c.in_ok-right.ensures.extends
