use Rattle.std.proofs.Common.{◌≡◌, [], ◌∷◌, refl, arith}
use Rattle.recipe_runner.specs.Running.{most_made_by, nothing}
use Rattle.recipe_runner.proofs.FlatLaws.{flat-derives}
use Rattle.glue_entries.specs.Statements.{equiv_tycong_statement}
use Rattle.glue_entries.specs.declared.equiv_tycong.TheConstants.{EQUIV_TYCONG, EQUIV_TYCONG_GIVES}
use Rattle.presupposed.proofs.EarlierLaws.{may-run-one}
use Rattle.presupposed.proofs.earlier.EquivalencesEarlier.derive.Goals as goal

pub run-requires-clause-rows : goal.run-requires-clause-rows
run-requires-clause-rows c = let e : most_made_by EQUIV_TYCONG.now ≡ 175 = refl in omega (arith, e)

pub run-requires-clause-right : goal.run-requires-clause-right
run-requires-clause-right c =
    let a = c.args in
    (c.requires.0, may-run-one (nothing ∷ []) equiv_tycong_statement a.book.now EQUIV_TYCONG.now EQUIV_TYCONG_GIVES.now a.parts.now a.premises.now a._recipe c.requires.0 (flat-derives (nothing ∷ []) equiv_tycong_statement EQUIV_TYCONG.now EQUIV_TYCONG_GIVES.now c.equivalences_are_derived.ensures.derived) c.requires.1)

pub returns-clause-concludes : goal.returns-clause-concludes
returns-clause-concludes c = λ gives h.
    let a = c.args in
    c.in_ok-run.ensures.concludes gives (may-run-one (nothing ∷ []) equiv_tycong_statement a.book.now EQUIV_TYCONG.now EQUIV_TYCONG_GIVES.now a.parts.now a.premises.now a._recipe gives (flat-derives (nothing ∷ []) equiv_tycong_statement EQUIV_TYCONG.now EQUIV_TYCONG_GIVES.now c.equivalences_are_derived.ensures.derived) h)
