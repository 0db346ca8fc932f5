use Rattle.std.proofs.Common.{◌≡◌, ◌≤◌, [], ◌∷◌, false, true, refl, ap, subst, arith}
use Rattle.std.specs.Prelude.{slice_get, slice_index}
use Rattle.std.proofs.lemmas.Option.{slice_get_within}
use Rattle.kan_fill.specs.Statements.{fill_statement, contr_statement, pres_statement, ext_statement, kan_statements}
use Rattle.kan_fill.specs.declared.pres.TheConstants.{PRES, PRES_GIVES}
use Rattle.kan_fill.specs.declared.ext.TheConstants.{EXT, EXT_GIVES}
use Rattle.kan_calls.specs.Calls.{most_of_each}
use Rattle.kan_calls.proofs.CallLaws.{may-run-at, may-derive-at}
use Rattle.kan_calls.proofs.kan.KanEarlier.derive.Goals as goal

pub derive-requires : goal.derive-requires
derive-requires c =
    let a = c.args in
    let gives = c.requires.0 in
    (gives, may-derive-at kan_statements (fill_statement ∷ []) fill_statement a.book.now a.recipe 0 a.parts.now a.premises.now gives (ap (slice_get kan_statements) c.in-0.is) refl c.requires.1)

pub returns-in_ok-derive-in-0-clause-concludes : goal.returns-in_ok-derive-in-0-clause-concludes
returns-in_ok-derive-in-0-clause-concludes c = λ gives h.
    let a = c.args in
    c.in_ok-derive-in-0.ensures.concludes gives (may-derive-at kan_statements (fill_statement ∷ []) fill_statement a.book.now a.recipe 0 a.parts.now a.premises.now gives (ap (slice_get kan_statements) c.in-0.is) refl h)

pub derive-requires-in-1 : goal.derive-requires-in-1
derive-requires-in-1 c =
    let a = c.args in
    let gives = c.requires.0 in
    (gives, may-derive-at kan_statements (contr_statement ∷ []) contr_statement a.book.now a.recipe 0 a.parts.now a.premises.now gives (ap (slice_get kan_statements) c.in-1.is) refl c.requires.1)

pub returns-in_ok-derive-in-1-clause-concludes : goal.returns-in_ok-derive-in-1-clause-concludes
returns-in_ok-derive-in-1-clause-concludes c = λ gives h.
    let a = c.args in
    c.in_ok-derive-in-1.ensures.concludes gives (may-derive-at kan_statements (contr_statement ∷ []) contr_statement a.book.now a.recipe 0 a.parts.now a.premises.now gives (ap (slice_get kan_statements) c.in-1.is) refl h)

pub run-requires-clause-right : goal.run-requires-clause-right
run-requires-clause-right c =
    let a = c.args in
    let gives = c.requires.0 in
    let h = c.requires.1 in
    (gives, may-run-at kan_statements (fill_statement ∷ []) pres_statement a.book.now PRES.now PRES_GIVES.now a.parts.now a.premises.now a.recipe gives (ap (slice_get kan_statements) c.in-2.is) c.preservation_is_derived.ensures h)

pub returns-in_ok-run-in-2-clause-concludes : goal.returns-in_ok-run-in-2-clause-concludes
returns-in_ok-run-in-2-clause-concludes c = λ gives h.
    let a = c.args in
    c.in_ok-run-in-2.ensures.concludes gives (may-run-at kan_statements (fill_statement ∷ []) pres_statement a.book.now PRES.now PRES_GIVES.now a.parts.now a.premises.now a.recipe gives (ap (slice_get kan_statements) c.in-2.is) c.preservation_is_derived.ensures h)

pub run-requires-in_default-clause-right : goal.run-requires-in_default-clause-right
run-requires-in_default-clause-right c =
    let a = c.args in
    let gives = c.requires.0 in
    let h = c.requires.1 in
    let lt = slice_get_within kan_statements a.recipe h.statement h.is in
    let three : a.recipe ≡ 3 = omega (arith, lt) in
    (gives, may-run-at kan_statements (contr_statement ∷ []) ext_statement a.book.now EXT.now EXT_GIVES.now a.parts.now a.premises.now a.recipe gives (ap (slice_get kan_statements) three) c.extension_is_derived.ensures h)

pub returns-in_ok-run-in_default-clause-concludes : goal.returns-in_ok-run-in_default-clause-concludes
returns-in_ok-run-in_default-clause-concludes c = λ gives h.
    let a = c.args in
    let lt = slice_get_within kan_statements a.recipe h.statement h.is in
    let three : a.recipe ≡ 3 = omega (arith, lt) in
    c.in_ok-run-in_default.ensures.concludes gives (may-run-at kan_statements (contr_statement ∷ []) ext_statement a.book.now EXT.now EXT_GIVES.now a.parts.now a.premises.now a.recipe gives (ap (slice_get kan_statements) three) c.extension_is_derived.ensures h)

pub returns-in_err-run-in_default-clause-covered : goal.returns-in_err-run-in_default-clause-covered
returns-in_err-run-in_default-clause-covered c = λ enough.
    let a = c.args in
    let h = c.requires.1 in
    let lt = slice_get_within kan_statements a.recipe h.statement h.is in
    let three : a.recipe ≡ 3 = omega (arith, lt) in
    let no : false ≡ true = c.in_err-run-in_default.ensures.covered (subst (λ k. slice_index most_of_each k ≤ a.book.now.spare) three enough) in
    absurd (cc no)
