use Rattle.std.proofs.Common.{sym}
use Rattle.trees.specs.Judgements.{WithName}
use Rattle.translation.specs.Terms.{pathp}
use Rattle.typing_tasks.proofs.SortLaws.{of_one_sort}
use Rattle.typing_steps.proofs.lines.path_of.Goals as goal

pub path_type-requires : goal.path_type-requires
path_type-requires c =
    let (H, A, u, v, over, left, right) = c.requires in
    (H, A, u, v, of_one_sort c.args.book.now c.args.line (WithName H) A _ _ c.in-Large.is over, left, right)

pub returns-in_ok-path_type-in-Large-clause-typed : goal.returns-in_ok-path_type-in-Large-clause-typed
returns-in_ok-path_type-in-Large-clause-typed c = λ H A u v over left right.
    of_one_sort c.path_type.new.book c.in_ok-path_type-in-Large.field-0 H (pathp A u v) _ _ (sym c.in-Large.is)
    (c.in_ok-path_type-in-Large.ensures.typed H A u v (of_one_sort c.args.book.now c.args.line (WithName H) A _ _ c.in-Large.is over) left right)

pub path_small-requires : goal.path_small-requires
path_small-requires c =
    let (H, A, u, v, over, left, right) = c.requires in
    (H, A, u, v, of_one_sort c.args.book.now c.args.line (WithName H) A _ _ c.in-Small.is over, left, right)

pub returns-in_ok-path_small-in-Small-clause-typed : goal.returns-in_ok-path_small-in-Small-clause-typed
returns-in_ok-path_small-in-Small-clause-typed c = λ H A u v over left right.
    of_one_sort c.path_small.new.book c.in_ok-path_small-in-Small.field-0 H (pathp A u v) _ _ (sym c.in-Small.is)
    (c.in_ok-path_small-in-Small.ensures.typed H A u v (of_one_sort c.args.book.now c.args.line (WithName H) A _ _ c.in-Small.is over) left right)
