use Rattle.std.proofs.Common.{ap, refl}
use Rattle.typing_tasks.specs.declared.tasks.Task.TheVariants as task
use Rattle.bidirect.proofs.LoopLaws.{begins, finished}
use Rattle.bidirect.proofs.steps.lining.Goals as goal

pub returns-in_ok-under_a_name-in-EnterName-clause-steps : goal.returns-in_ok-under_a_name-in-EnterName-clause-steps
returns-in_ok-under_a_name-in-EnterName-clause-steps c = finished c.args.book.now c.under_a_name.new.book c.args.state.now c.under_a_name.new.self c.args.tasks.now _ _ _ (ap task.Lining c.in-EnterName.is) refl c.in_ok-under_a_name-in-EnterName.ensures.done

pub returns-in_ok-leave_entry-in-Leave-clause-steps : goal.returns-in_ok-leave_entry-in-Leave-clause-steps
returns-in_ok-leave_entry-in-Leave-clause-steps c = finished c.args.book.now c.args.book.now c.args.state.now c.leave_entry.new.self c.args.tasks.now _ _ _ (ap task.Lining c.in-Leave.is) refl (c.in_ok-leave_entry-in-Leave.ensures c.args.book.now)

pub returns-in_ok-path_at_name-in-PathInUniverse-clause-steps : goal.returns-in_ok-path_at_name-in-PathInUniverse-clause-steps
returns-in_ok-path_at_name-in-PathInUniverse-clause-steps c = finished c.args.book.now c.path_at_name.new.book c.args.state.now c.path_at_name.new.self c.args.tasks.now _ _ _ (ap task.Lining c.in-PathInUniverse.is) refl c.in_ok-path_at_name-in-PathInUniverse.ensures.done

pub returns-in_ok-right_end-in-Right-clause-steps : goal.returns-in_ok-right_end-in-Right-clause-steps
returns-in_ok-right_end-in-Right-clause-steps c = begins c.args.book.now c.right_end.new.book c.args.state.now c.right_end.new.self c.args.tasks.now c.right_end.new.tasks _ _ _ (ap task.Lining c.in-Right.is) c.in_ok-right_end-in-Right.ensures.steps

pub returns-in_ok-close_path-in-ClosePath-clause-steps : goal.returns-in_ok-close_path-in-ClosePath-clause-steps
returns-in_ok-close_path-in-ClosePath-clause-steps c = finished c.args.book.now c.close_path.new.book c.args.state.now c.close_path.new.self c.args.tasks.now _ _ _ (ap task.Lining c.in-ClosePath.is) refl c.in_ok-close_path-in-ClosePath.ensures.done

pub returns-in_ok-transport-in-Transport-clause-steps : goal.returns-in_ok-transport-in-Transport-clause-steps
returns-in_ok-transport-in-Transport-clause-steps c = finished c.args.book.now c.transport.new.book c.args.state.now c.transport.new.self c.args.tasks.now _ _ _ (ap task.Lining c.in-Transport.is) refl c.in_ok-transport-in-Transport.ensures.done

pub returns-in_ok-left_end-in-Left-clause-steps : goal.returns-in_ok-left_end-in-Left-clause-steps
returns-in_ok-left_end-in-Left-clause-steps c = begins c.args.book.now c.left_end.new.book c.args.state.now c.left_end.new.self c.args.tasks.now c.left_end.new.tasks _ _ _ (ap task.Lining c.in-Left.is) c.in_ok-left_end-in-Left.ensures.steps
