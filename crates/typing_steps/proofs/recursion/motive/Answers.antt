use Rattle.typing_steps.proofs.LineLaws.{motive_under_planned, motive_applied_planned}
use Rattle.typing_steps.proofs.recursion.motive.Goals as goal

pub returns-in_ok-plan-in-Under : goal.returns-in_ok-plan-in-Under
returns-in_ok-plan-in-Under c =
    let (moved, planned) = c.in_ok-plan-in-Under.ensures in
    motive_under_planned c.args.tasks.now c.plan.new.self _ c.args.motive c.in-Under.field-0 _ c.in-Under.is moved planned

pub returns-in_ok-plan-in-Applied : goal.returns-in_ok-plan-in-Applied
returns-in_ok-plan-in-Applied c =
    let (moved, planned) = c.in_ok-plan-in-Applied.ensures in
    motive_applied_planned c.args.tasks.now c.plan-in-Applied.new.self _ c.args.motive c.in-Applied.field-0 _ c.in-Applied.is moved planned
