use Rattle.std.proofs.Common.{sym, subst}
use Rattle.std.specs.Prelude.{IfOk}
use Rattle.recipe_runner.proofs.BuildLaws.{some-is}
use Rattle.kan_fill.specs.Statements.{fill_statement}
use Rattle.kan_calls.specs.Calls.{Gives}
use Rattle.kan_tests.specs.Fillings.{filling_parts}
use Rattle.kan_tests.proofs.TestLaws.{may-call-later}
use Rattle.kan_tests.proofs.call_tests.filled.Goals as goal

pub fill-requires : goal.fill-requires
fill-requires g c =
    let step = c.in_ok-call.call.step in
    (filling_parts, may-call-later fill_statement c.filling.new.book c.reserve.new.self c.reserve.ensures.extends c.in_ok-call.call.ctx.0 step.parts step.premises filling_parts c.in_ok-call.ensures)

pub returns : goal.returns
returns g c =
    let step = c.in_ok-call.call.step in
    let may = may-call-later fill_statement c.filling.new.book c.reserve.new.self c.reserve.ensures.extends c.in_ok-call.call.ctx.0 step.parts step.premises filling_parts c.in_ok-call.ensures in
    let gives = subst (λ r. IfOk r (Gives fill_statement c.reserve.new.self c.fill.new.book c.in_ok-call.call.ctx step)) (sym c.in_ok-within.ensures) c.fill.ensures.gives in
    some-is _ _ (gives filling_parts may)
