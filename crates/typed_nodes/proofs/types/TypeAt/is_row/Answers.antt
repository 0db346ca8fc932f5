use Rattle.trees.specs.Things.{ATree}
use Rattle.typed_nodes.proofs.TypeLaws.{same_trees}
use Rattle.typed_nodes.proofs.types.TypeAt.is_row.Goals as goal

pub row-requires : goal.row-requires
row-requires c =
    let (H, A, B, is, at_row) = c.requires in
    (H, A, is)

pub same_tree-requires-clause-left : goal.same_tree-requires-clause-left
same_tree-requires-clause-left c =
    let (H, A, B, is, at_row) = c.requires in
    (A, c.in_ok-own.ensures.meaning H A is)

pub same_tree-requires-clause-right : goal.same_tree-requires-clause-right
same_tree-requires-clause-right c =
    let (H, A, B, is, at_row) = c.requires in
    (B, c.in_ok-own.ensures.extends.rows.keeps c.args.row (ATree B) at_row)

pub returns-clause-same : goal.returns-clause-same
returns-clause-same c = λ H A B is at_row.
    same_trees _ _ _ A B c.in_ok-same_tree.ensures
    (c.in_ok-own.ensures.meaning H A is) (c.in_ok-own.ensures.extends.rows.keeps c.args.row (ATree B) at_row)
