use Rattle.std.proofs.Common.{subst}
use Rattle.typing_tasks.specs.Tasks.{Closes}
use Rattle.typing_steps.proofs.state.CheckState.close.Goals as goal

pub close_family-requires : goal.close_family-requires
close_family-requires c =
    let (S, M, is, does) = c.requires in
    (S, M, is, subst (λ k. Closes k S M) c.in-Family.is does)

pub returns-in_ok-close_family-in-Family-clause-done :
    goal.returns-in_ok-close_family-in-Family-clause-done
returns-in_ok-close_family-in-Family-clause-done c = λ S M is does.
    c.in_ok-close_family-in-Family.ensures.closes S M is (subst (λ k. Closes k S M) c.in-Family.is does)

pub close_inferred-requires : goal.close_inferred-requires
close_inferred-requires c =
    let (S, M, is, does) = c.requires in
    (S, M, is, subst (λ k. Closes k S M) c.in-Function.is does)

pub returns-in_ok-close_inferred-in-Function-clause-done :
    goal.returns-in_ok-close_inferred-in-Function-clause-done
returns-in_ok-close_inferred-in-Function-clause-done c = λ S M is does.
    c.in_ok-close_inferred-in-Function.ensures.closes S M is (subst (λ k. Closes k S M) c.in-Function.is does)

pub close_stated-requires : goal.close_stated-requires
close_stated-requires c =
    let (S, M, is, does) = c.requires in
    (S, M, is, subst (λ k. Closes k S M) c.in-Definition.is does)

pub returns-in_ok-close_stated-in-Definition-clause-done :
    goal.returns-in_ok-close_stated-in-Definition-clause-done
returns-in_ok-close_stated-in-Definition-clause-done c = λ S M is does.
    c.in_ok-close_stated-in-Definition.ensures.closes S M is (subst (λ k. Closes k S M) c.in-Definition.is does)
