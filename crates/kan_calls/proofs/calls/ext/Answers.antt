use Rattle.std.proofs.Common.{◌≡◌, suc, [], ◌∷◌, length, refl, arith}
use Rattle.recipes.specs.Derivations.{conclusions_at}
use Rattle.recipe_runner.specs.Running.{most_made_by}
use Rattle.kan_fill.specs.Statements.{contr_statement, ext_statement}
use Rattle.kan_fill.specs.declared.ext.TheConstants.{EXT, EXT_GIVES}
use Rattle.kan_calls.proofs.CallLaws.{may-run-call, call-premises}
use Rattle.kan_calls.proofs.calls.ext.Goals as goal

pub call-requires-clause-rows : goal.call-requires-clause-rows
call-requires-clause-rows c = let e : most_made_by EXT.now ≡ 101 = refl in omega (arith, e)

pub call-requires-clause-few : goal.call-requires-clause-few
call-requires-clause-few c =
    let a = c.args in
    let e : suc (length a.step.now.premises) ≡ length ext_statement.wants = call-premises ext_statement a.book.now a.ctx.0 a.step.now.parts a.step.now.premises c.requires.0 c.requires.1 in
    omega (arith, e)

pub call-requires-clause-right : goal.call-requires-clause-right
call-requires-clause-right c =
    let a = c.args in
    (conclusions_at ext_statement c.requires.0, may-run-call (contr_statement ∷ []) ext_statement a.book.now EXT.now EXT_GIVES.now a.ctx.0 a.step.now.parts a.step.now.premises c.requires.0 c.extension_is_derived.ensures c.requires.1)

pub returns-clause-gives : goal.returns-clause-gives
returns-clause-gives c = λ things h.
    let a = c.args in
    c.in_ok-call.ensures.gives (conclusions_at ext_statement things) (may-run-call (contr_statement ∷ []) ext_statement a.book.now EXT.now EXT_GIVES.now a.ctx.0 a.step.now.parts a.step.now.premises things c.extension_is_derived.ensures h)
