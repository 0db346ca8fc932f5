use Rattle.std.proofs.Common.{sym, subst}
use Rattle.std.specs.Prelude.{IfOk}
use Rattle.recipe_runner.proofs.BuildLaws.{some-is}
use Rattle.kan_fill.specs.Statements.{pres_statement}
use Rattle.kan_calls.specs.Calls.{Gives}
use Rattle.kan_tests.specs.Fillings.{preservation_parts}
use Rattle.kan_tests.proofs.TestLaws.{may-call-later}
use Rattle.kan_tests.proofs.call_tests.preserved.Goals as goal

pub pres-requires : goal.pres-requires
pres-requires g c =
    let step = c.in_ok-call.call.step in
    (preservation_parts, may-call-later pres_statement c.preservation.new.book c.reserve.new.self c.reserve.ensures.extends c.in_ok-call.call.ctx.0 step.parts step.premises preservation_parts c.in_ok-call.ensures)

pub returns : goal.returns
returns g c =
    let step = c.in_ok-call.call.step in
    let may = may-call-later pres_statement c.preservation.new.book c.reserve.new.self c.reserve.ensures.extends c.in_ok-call.call.ctx.0 step.parts step.premises preservation_parts c.in_ok-call.ensures in
    let gives = subst (λ r. IfOk r (Gives pres_statement c.reserve.new.self c.pres.new.book c.in_ok-call.call.ctx step)) (sym c.in_ok-within.ensures) c.pres.ensures.gives in
    some-is _ _ (gives preservation_parts may)
