use Rattle.std.proofs.Common.{refl}
use Rattle.bidirect.proofs.LoopLaws.{begins, finished}
use Rattle.bidirect.proofs.steps.step.Goals as goal

pub returns-in_ok-check-in-Check-clause-steps : goal.returns-in_ok-check-in-Check-clause-steps
returns-in_ok-check-in-Check-clause-steps c = begins c.args.book.now c.args.book.now c.args.state.now c.args.state.now c.args.tasks.now c.check.new.tasks _ _ _ c.in-Check.is (c.in_ok-check-in-Check.ensures c.args.book.now c.args.state.now)

pub returns-in_ok-comparing-in-Comparing-clause-steps : goal.returns-in_ok-comparing-in-Comparing-clause-steps
returns-in_ok-comparing-in-Comparing-clause-steps c = finished c.args.book.now c.comparing.new.book c.args.state.now c.comparing.new.state c.args.tasks.now _ _ _ c.in-Comparing.is refl c.in_ok-comparing-in-Comparing.ensures.done
