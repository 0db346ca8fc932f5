use Rattle.std.proofs.Common.{ap, refl}
use Rattle.typing_tasks.specs.declared.tasks.Task.TheVariants as task
use Rattle.bidirect.proofs.LoopLaws.{finished}
use Rattle.bidirect.proofs.steps.recurring.Goals as goal

pub returns-in_ok-enter_number-in-EnterNumber-clause-steps : goal.returns-in_ok-enter_number-in-EnterNumber-clause-steps
returns-in_ok-enter_number-in-EnterNumber-clause-steps c = finished c.args.book.now c.enter_number.new.book c.args.state.now c.enter_number.new.self c.args.tasks.now _ _ _ (ap task.Recurring c.in-EnterNumber.is) refl c.in_ok-enter_number-in-EnterNumber.ensures.done

pub returns-in_ok-family_at_number-in-FamilyOfNumbers-clause-steps : goal.returns-in_ok-family_at_number-in-FamilyOfNumbers-clause-steps
returns-in_ok-family_at_number-in-FamilyOfNumbers-clause-steps c = finished c.args.book.now c.family_at_number.new.book c.args.state.now c.family_at_number.new.self c.args.tasks.now _ _ _ (ap task.Recurring c.in-FamilyOfNumbers.is) refl c.in_ok-family_at_number-in-FamilyOfNumbers.ensures.done

pub returns-in_ok-close_recursion-in-Close-clause-steps : goal.returns-in_ok-close_recursion-in-Close-clause-steps
returns-in_ok-close_recursion-in-Close-clause-steps c = finished c.args.book.now c.close_recursion.new.book c.args.state.now c.close_recursion.new.self c.args.tasks.now _ _ _ (ap task.Recurring c.in-Close.is) refl c.in_ok-close_recursion-in-Close.ensures.done
