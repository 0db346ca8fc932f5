use Rattle.direct.specs.Known.{Interval}
use Rattle.typing_tasks.specs.States.{under}
use Rattle.typing_steps.proofs.state.CheckState.under_a_name.Goals as goal

pub enter_name-requires : goal.enter_name-requires
enter_name-requires c =
    let (S, M, is, made) = c.requires in
    (S, is)

pub returns-clause-done : goal.returns-clause-done
returns-clause-done c = λ S M is made. (under Interval S, c.in_ok-enter_name.ensures.under S is, made)
