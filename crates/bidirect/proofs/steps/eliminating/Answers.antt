use Rattle.std.proofs.Common.{ap, refl}
use Rattle.typing_tasks.specs.declared.tasks.Task.TheVariants as task
use Rattle.bidirect.proofs.LoopLaws.{finished}
use Rattle.bidirect.proofs.steps.eliminating.Goals as goal

pub returns-in_ok-apply-in-Apply-clause-steps : goal.returns-in_ok-apply-in-Apply-clause-steps
returns-in_ok-apply-in-Apply-clause-steps c = finished c.args.book.now c.apply.new.book c.args.state.now c.apply.new.self c.args.tasks.now _ _ _ (ap task.Eliminating c.in-Apply.is) refl c.in_ok-apply-in-Apply.ensures.done

pub returns-in_ok-successor_of-in-Successor-clause-steps : goal.returns-in_ok-successor_of-in-Successor-clause-steps
returns-in_ok-successor_of-in-Successor-clause-steps c = finished c.args.book.now c.successor_of.new.book c.args.state.now c.successor_of.new.self c.args.tasks.now _ _ _ (ap task.Eliminating c.in-Successor.is) refl c.in_ok-successor_of-in-Successor.ensures.done
