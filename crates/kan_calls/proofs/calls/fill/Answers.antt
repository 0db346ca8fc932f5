use Rattle.std.proofs.Common.{◌≡◌, suc, [], ◌∷◌, length, refl, arith}
use Rattle.recipes.specs.Derivations.{conclusions_at}
use Rattle.recipe_runner.specs.Running.{most_made_by, nothing}
use Rattle.recipe_runner.proofs.FlatLaws.{flat-derives}
use Rattle.kan_fill.specs.Statements.{fill_statement}
use Rattle.kan_fill.specs.declared.fill.TheConstants.{FILL, FILL_GIVES}
use Rattle.kan_calls.proofs.CallLaws.{may-run-call, call-premises}
use Rattle.kan_calls.proofs.calls.fill.Goals as goal

pub call-requires-clause-rows : goal.call-requires-clause-rows
call-requires-clause-rows c = let e : most_made_by FILL.now ≡ 273 = refl in omega (arith, e)

pub call-requires-clause-few : goal.call-requires-clause-few
call-requires-clause-few c =
    let a = c.args in
    let e : suc (length a.step.now.premises) ≡ length fill_statement.wants = call-premises fill_statement a.book.now a.ctx.0 a.step.now.parts a.step.now.premises c.requires.0 c.requires.1 in
    omega (arith, e)

pub call-requires-clause-right : goal.call-requires-clause-right
call-requires-clause-right c =
    let a = c.args in
    (conclusions_at fill_statement c.requires.0, may-run-call (nothing ∷ []) fill_statement a.book.now FILL.now FILL_GIVES.now a.ctx.0 a.step.now.parts a.step.now.premises c.requires.0 (flat-derives (nothing ∷ []) fill_statement FILL.now FILL_GIVES.now c.filling_is_derived.ensures) c.requires.1)

pub returns-clause-gives : goal.returns-clause-gives
returns-clause-gives c = λ things h.
    let a = c.args in
    c.in_ok-call.ensures.gives (conclusions_at fill_statement things) (may-run-call (nothing ∷ []) fill_statement a.book.now FILL.now FILL_GIVES.now a.ctx.0 a.step.now.parts a.step.now.premises things (flat-derives (nothing ∷ []) fill_statement FILL.now FILL_GIVES.now c.filling_is_derived.ensures) h)
