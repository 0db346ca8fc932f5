use Rattle.std.proofs.Common.{ap, refl}
use Rattle.typing_tasks.specs.declared.tasks.Task.TheVariants as task
use Rattle.bidirect.proofs.LoopLaws.{begins, finished}
use Rattle.bidirect.proofs.steps.binding.Goals as goal

pub returns-in_ok-close-in-Close-clause-steps : goal.returns-in_ok-close-in-Close-clause-steps
returns-in_ok-close-in-Close-clause-steps c = finished c.args.book.now c.close.new.book c.args.state.now c.close.new.self c.args.tasks.now _ _ _ (ap task.Binding c.in-Close.is) refl c.in_ok-close-in-Close.ensures.done

pub returns-in_ok-take-in-Take-clause-steps : goal.returns-in_ok-take-in-Take-clause-steps
returns-in_ok-take-in-Take-clause-steps c = begins c.args.book.now c.take.new.book c.args.state.now c.take.new.self c.args.tasks.now c.take.new.tasks _ _ _ (ap task.Binding c.in-Take.is) c.in_ok-take-in-Take.ensures.steps

pub returns-in_ok-close_function-in-CloseFunction-clause-steps : goal.returns-in_ok-close_function-in-CloseFunction-clause-steps
returns-in_ok-close_function-in-CloseFunction-clause-steps c = finished c.args.book.now c.close_function.new.book c.args.state.now c.close_function.new.self c.args.tasks.now _ _ _ (ap task.Binding c.in-CloseFunction.is) refl c.in_ok-close_function-in-CloseFunction.ensures.done

pub returns-in_ok-over-in-Over-clause-steps : goal.returns-in_ok-over-in-Over-clause-steps
returns-in_ok-over-in-Over-clause-steps c = begins c.args.book.now c.over.new.book c.args.state.now c.over.new.self c.args.tasks.now c.over.new.tasks _ _ _ (ap task.Binding c.in-Over.is) c.in_ok-over-in-Over.ensures.steps
