use Rattle.typing_tasks.specs.declared.tasks.Sort.TheVariants.{Large, Small}
use Rattle.typing_tasks.specs.declared.tasks.Former.TheVariants.{Pi, Sigma}
use Rattle.typing_tasks.proofs.SortLaws.{parts_of_one_sort, forms_of_one_sort}
use Rattle.typing_tasks.proofs.types.family_of.Goals as goal

pub pi_type-requires : goal.pi_type-requires
pi_type-requires c = parts_of_one_sort c.args.book.now c.args.domain c.args.codomain c.args.sort Large c.in-Pi-Large.is-1 c.requires

pub returns-in_ok-pi_type-in-Pi-Large-clause-typed :
    goal.returns-in_ok-pi_type-in-Pi-Large-clause-typed
returns-in_ok-pi_type-in-Pi-Large-clause-typed c =
    forms_of_one_sort c.args.book.now c.pi_type.new.book c.args.domain c.args.codomain c.in_ok-pi_type-in-Pi-Large.field-0 c.args.sort Large c.args.former Pi
    c.in-Pi-Large.is-1 c.in-Pi-Large.is-0 c.in_ok-pi_type-in-Pi-Large.ensures.typed

pub pi_small-requires : goal.pi_small-requires
pi_small-requires c = parts_of_one_sort c.args.book.now c.args.domain c.args.codomain c.args.sort Small c.in-Pi-Small.is-1 c.requires

pub returns-in_ok-pi_small-in-Pi-Small-clause-typed :
    goal.returns-in_ok-pi_small-in-Pi-Small-clause-typed
returns-in_ok-pi_small-in-Pi-Small-clause-typed c =
    forms_of_one_sort c.args.book.now c.pi_small.new.book c.args.domain c.args.codomain c.in_ok-pi_small-in-Pi-Small.field-0 c.args.sort Small c.args.former Pi
    c.in-Pi-Small.is-1 c.in-Pi-Small.is-0 c.in_ok-pi_small-in-Pi-Small.ensures.typed

pub sigma_type-requires : goal.sigma_type-requires
sigma_type-requires c = parts_of_one_sort c.args.book.now c.args.domain c.args.codomain c.args.sort Large c.in-Sigma-Large.is-1 c.requires

pub returns-in_ok-sigma_type-in-Sigma-Large-clause-typed :
    goal.returns-in_ok-sigma_type-in-Sigma-Large-clause-typed
returns-in_ok-sigma_type-in-Sigma-Large-clause-typed c =
    forms_of_one_sort c.args.book.now c.sigma_type.new.book c.args.domain c.args.codomain c.in_ok-sigma_type-in-Sigma-Large.field-0 c.args.sort Large c.args.former Sigma
    c.in-Sigma-Large.is-1 c.in-Sigma-Large.is-0 c.in_ok-sigma_type-in-Sigma-Large.ensures.typed

pub sigma_small-requires : goal.sigma_small-requires
sigma_small-requires c = parts_of_one_sort c.args.book.now c.args.domain c.args.codomain c.args.sort Small c.in-Sigma-Small.is-1 c.requires

pub returns-in_ok-sigma_small-in-Sigma-Small-clause-typed :
    goal.returns-in_ok-sigma_small-in-Sigma-Small-clause-typed
returns-in_ok-sigma_small-in-Sigma-Small-clause-typed c =
    forms_of_one_sort c.args.book.now c.sigma_small.new.book c.args.domain c.args.codomain c.in_ok-sigma_small-in-Sigma-Small.field-0 c.args.sort Small c.args.former Sigma
    c.in-Sigma-Small.is-1 c.in-Sigma-Small.is-0 c.in_ok-sigma_small-in-Sigma-Small.ensures.typed
