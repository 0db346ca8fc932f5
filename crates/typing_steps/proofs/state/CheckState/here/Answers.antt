use Rattle.typing_tasks.specs.States.{place}
use Rattle.typing_steps.proofs.state.CheckState.here.Goals as goal

pub returns-clause-here : goal.returns-clause-here
returns-clause-here c = λ S s. c.in_ok-here.ensures.here (place S) s.at
