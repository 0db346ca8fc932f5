use Rattle.typing_tasks.specs.declared.tasks.Sort.TheVariants.{Large, Small}
use Rattle.typing_tasks.proofs.SortLaws.{of_one_sort}
use Rattle.typing_tasks.proofs.types.as_type.Goals as goal

pub small_type-requires : goal.small_type-requires
small_type-requires c =
    let (H, A, says) = c.requires in
    (H, A, of_one_sort c.args.book.now c.args.node H A c.args.sort Small c.in-Small.is says)

pub returns-in-Large-clause-typed : goal.returns-in-Large-clause-typed
returns-in-Large-clause-typed c = λ H A says. of_one_sort c.args.book.now c.args.node H A c.args.sort Large c.in-Large.is says

pub returns-in_ok-small_type-in-Small-clause-typed :
    goal.returns-in_ok-small_type-in-Small-clause-typed
returns-in_ok-small_type-in-Small-clause-typed c = λ H A says.
    c.in_ok-small_type-in-Small.ensures.typed H A (of_one_sort c.args.book.now c.args.node H A c.args.sort Small c.in-Small.is says)
