use Rattle.typing_tasks.specs.States.{with_known}
use Rattle.typing_steps.proofs.state.CheckState.forget_definitions.Goals as goal

pub returns : goal.returns
returns c = λ b S M is (G, known, made). (with_known G S, c.forget.ensures b S G is known, made)
