use Rattle.std.proofs.Common.{ap, refl}
use Rattle.typing_tasks.specs.declared.tasks.Task.TheVariants as task
use Rattle.bidirect.proofs.LoopLaws.{finished}
use Rattle.bidirect.proofs.steps.defining.Goals as goal

pub returns-in_ok-close_definition-in-Close-clause-steps : goal.returns-in_ok-close_definition-in-Close-clause-steps
returns-in_ok-close_definition-in-Close-clause-steps c = finished c.args.book.now c.args.book.now c.args.state.now c.close_definition.new.self c.args.tasks.now _ _ _ (ap task.Defining c.in-Close.is) refl (c.in_ok-close_definition-in-Close.ensures c.args.book.now)

pub returns-in_ok-forget_definitions-in-End-clause-steps : goal.returns-in_ok-forget_definitions-in-End-clause-steps
returns-in_ok-forget_definitions-in-End-clause-steps c = finished c.args.book.now c.args.book.now c.args.state.now c.forget_definitions.new.self c.args.tasks.now _ _ _ (ap task.Defining c.in-End.is) refl (c.in_ok-forget_definitions-in-End.ensures c.args.book.now)
