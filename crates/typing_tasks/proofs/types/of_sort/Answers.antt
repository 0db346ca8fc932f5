use Rattle.std.proofs.Common.{sym}
use Rattle.typing_tasks.specs.declared.tasks.Sort.TheVariants.{Large, Small}
use Rattle.typing_tasks.proofs.SortLaws.{of_one_sort}
use Rattle.typing_tasks.proofs.types.of_sort.Goals as goal

pub small_type-requires : goal.small_type-requires
small_type-requires c = c.requires

pub returns-in_ok-small_type-in-Large-clause-typed :
    goal.returns-in_ok-small_type-in-Large-clause-typed
returns-in_ok-small_type-in-Large-clause-typed c = λ H A says.
    of_one_sort c.small_type.new.book c.in_ok-small_type-in-Large.field-0 H A Large c.args.sort (sym c.in-Large.is) (c.in_ok-small_type-in-Large.ensures.typed H A says)

pub returns-in-Small-clause-typed : goal.returns-in-Small-clause-typed
returns-in-Small-clause-typed c = λ H A says. of_one_sort c.args.book.now c.args.term H A Small c.args.sort (sym c.in-Small.is) says
