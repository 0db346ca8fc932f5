use Rattle.std.proofs.Common.{sym, subst}
use Rattle.std.specs.Prelude.{IfOk}
use Rattle.recipe_runner.proofs.BuildLaws.{some-is}
use Rattle.kan_fill.specs.Statements.{contr_statement}
use Rattle.kan_calls.specs.Calls.{Gives}
use Rattle.kan_tests.specs.Fillings.{contraction_parts}
use Rattle.kan_tests.proofs.TestLaws.{may-call-later}
use Rattle.kan_tests.proofs.call_tests.contracted.Goals as goal

pub contr-requires : goal.contr-requires
contr-requires g c =
    let step = c.in_ok-call.call.step in
    (contraction_parts, may-call-later contr_statement c.contraction.new.book c.reserve.new.self c.reserve.ensures.extends c.in_ok-call.call.ctx.0 step.parts step.premises contraction_parts c.in_ok-call.ensures)

pub returns : goal.returns
returns g c =
    let step = c.in_ok-call.call.step in
    let may = may-call-later contr_statement c.contraction.new.book c.reserve.new.self c.reserve.ensures.extends c.in_ok-call.call.ctx.0 step.parts step.premises contraction_parts c.in_ok-call.ensures in
    let gives = subst (λ r. IfOk r (Gives contr_statement c.reserve.new.self c.contr.new.book c.in_ok-call.call.ctx step)) (sym c.in_ok-within.ensures) c.contr.ensures.gives in
    some-is _ _ (gives contraction_parts may)
