use Rattle.std.proofs.Common.{ap, refl}
use Rattle.typing_tasks.specs.declared.tasks.Task.TheVariants as task
use Rattle.bidirect.proofs.LoopLaws.{begins, finished}
use Rattle.bidirect.proofs.steps.pairing.Goals as goal

pub returns-in_ok-components-in-Components-clause-steps : goal.returns-in_ok-components-in-Components-clause-steps
returns-in_ok-components-in-Components-clause-steps c = begins c.args.book.now c.components.new.book c.args.state.now c.components.new.self c.args.tasks.now c.components.new.tasks _ _ _ (ap task.Pairing c.in-Components.is) c.in_ok-components-in-Components.ensures.steps

pub returns-in_ok-second-in-Second-clause-steps : goal.returns-in_ok-second-in-Second-clause-steps
returns-in_ok-second-in-Second-clause-steps c = begins c.args.book.now c.second.new.book c.args.state.now c.second.new.self c.args.tasks.now c.second.new.tasks _ _ _ (ap task.Pairing c.in-Second.is) c.in_ok-second-in-Second.ensures.steps

pub returns-in_ok-pair-in-Pair-clause-steps : goal.returns-in_ok-pair-in-Pair-clause-steps
returns-in_ok-pair-in-Pair-clause-steps c = finished c.args.book.now c.pair.new.book c.args.state.now c.pair.new.self c.args.tasks.now _ _ _ (ap task.Pairing c.in-Pair.is) refl c.in_ok-pair-in-Pair.ensures.done

pub returns-in_ok-close_name-in-CloseName-clause-steps : goal.returns-in_ok-close_name-in-CloseName-clause-steps
returns-in_ok-close_name-in-CloseName-clause-steps c = finished c.args.book.now c.close_name.new.book c.args.state.now c.close_name.new.self c.args.tasks.now _ _ _ (ap task.Pairing c.in-CloseName.is) refl c.in_ok-close_name-in-CloseName.ensures.done

pub returns-in_ok-names-in-Names-clause-steps : goal.returns-in_ok-names-in-Names-clause-steps
returns-in_ok-names-in-Names-clause-steps c = begins c.args.book.now c.names.new.book c.args.state.now c.names.new.self c.args.tasks.now c.names.new.tasks _ _ _ (ap task.Pairing c.in-Names.is) c.in_ok-names-in-Names.ensures.steps
