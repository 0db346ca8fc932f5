use Rattle.typing_tasks.specs.States.{with_known}
use Rattle.typing_steps.proofs.state.CheckState.leave_entry.Goals as goal

pub returns : goal.returns
returns c = λ b S M is (G, known, made). (with_known G S, c.leave.ensures b S G is known, made)
