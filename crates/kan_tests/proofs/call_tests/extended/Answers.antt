use Rattle.std.proofs.Common.{sym, subst}
use Rattle.std.specs.Prelude.{IfOk}
use Rattle.recipe_runner.proofs.BuildLaws.{some-is}
use Rattle.kan_fill.specs.Statements.{ext_statement}
use Rattle.kan_calls.specs.Calls.{Gives}
use Rattle.kan_tests.specs.Fillings.{extension_parts}
use Rattle.kan_tests.proofs.TestLaws.{may-call-later}
use Rattle.kan_tests.proofs.call_tests.extended.Goals as goal

pub ext-requires : goal.ext-requires
ext-requires g c =
    let step = c.in_ok-call.call.step in
    (extension_parts, may-call-later ext_statement c.extension.new.book c.reserve.new.self c.reserve.ensures.extends c.in_ok-call.call.ctx.0 step.parts step.premises extension_parts c.in_ok-call.ensures)

pub returns : goal.returns
returns g c =
    let step = c.in_ok-call.call.step in
    let may = may-call-later ext_statement c.extension.new.book c.reserve.new.self c.reserve.ensures.extends c.in_ok-call.call.ctx.0 step.parts step.premises extension_parts c.in_ok-call.ensures in
    let gives = subst (λ r. IfOk r (Gives ext_statement c.reserve.new.self c.ext.new.book c.in_ok-call.call.ctx step)) (sym c.in_ok-within.ensures) c.ext.ensures.gives in
    some-is _ _ (gives extension_parts may)
