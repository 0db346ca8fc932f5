use Rattle.typing_steps.proofs.LineLaws.{line_under_planned, line_applied_planned}
use Rattle.typing_steps.proofs.lines.line.Goals as goal

pub returns-in_ok-plan-in-Under : goal.returns-in_ok-plan-in-Under
returns-in_ok-plan-in-Under c =
    let (moved, planned) = c.in_ok-plan-in-Under.ensures in
    line_under_planned c.args.tasks.now c.plan.new.self _ c.args.line c.args.sort c.in-Under.field-0 _ c.in-Under.is moved planned

pub returns-in_ok-plan-in-Applied : goal.returns-in_ok-plan-in-Applied
returns-in_ok-plan-in-Applied c =
    let (moved, planned) = c.in_ok-plan-in-Applied.ensures in
    line_applied_planned c.args.tasks.now c.plan-in-Applied.new.self _ c.args.line c.args.sort c.in-Applied.field-0 _ c.in-Applied.is moved planned
