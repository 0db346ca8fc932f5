use Rattle.std.proofs.Common.{◌≡◌, [], ◌∷◌, refl, arith}
use Rattle.recipe_runner.specs.Running.{most_made_by, nothing}
use Rattle.recipe_runner.proofs.FlatLaws.{flat-derives}
use Rattle.kan_fill.specs.Statements.{contr_statement}
use Rattle.kan_fill.specs.declared.contr.TheConstants.{CONTR, CONTR_GIVES}
use Rattle.kan_calls.proofs.CallLaws.{may-run-one}
use Rattle.kan_calls.proofs.earlier.ContractionEarlier.derive.Goals as goal

pub run-requires-clause-rows : goal.run-requires-clause-rows
run-requires-clause-rows c = let e : most_made_by CONTR.now ≡ 67 = refl in omega (arith, e)

pub run-requires-clause-right : goal.run-requires-clause-right
run-requires-clause-right c =
    let a = c.args in
    (c.requires.0, may-run-one (nothing ∷ []) contr_statement a.book.now CONTR.now CONTR_GIVES.now a.parts.now a.premises.now a._recipe c.requires.0 (flat-derives (nothing ∷ []) contr_statement CONTR.now CONTR_GIVES.now c.contraction_is_derived.ensures) c.requires.1)

pub returns-clause-concludes : goal.returns-clause-concludes
returns-clause-concludes c = λ gives h.
    let a = c.args in
    c.in_ok-run.ensures.concludes gives (may-run-one (nothing ∷ []) contr_statement a.book.now CONTR.now CONTR_GIVES.now a.parts.now a.premises.now a._recipe gives (flat-derives (nothing ∷ []) contr_statement CONTR.now CONTR_GIVES.now c.contraction_is_derived.ensures) h)
