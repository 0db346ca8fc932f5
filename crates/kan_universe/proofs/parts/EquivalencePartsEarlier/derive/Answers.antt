use Rattle.std.proofs.Common.{◌≡◌, ◌<◌, false, true, arith}
use Rattle.std.specs.Prelude.{slice_index}
use Rattle.std.proofs.lemmas.Option.{slice_get_within}
use Rattle.kan_calls.proofs.CallLaws.{may-run-recipe}
use Rattle.kan_universe.specs.Parts.{equivalence_parts, lines, most_of_equivalence_parts, most_of_lines}
use Rattle.kan_universe.proofs.parts.EquivalencePartsEarlier.derive.Goals as goal

pub equivalence_recipe-table-requires : goal.equivalence_recipe-table-requires
equivalence_recipe-table-requires c =
    let a = c.args in
    let h = c.requires.1 in
    let lt = slice_get_within equivalence_parts a.recipe h.statement h.is in
    omega (arith, lt)

pub run-requires-clause-rows : goal.run-requires-clause-rows
run-requires-clause-rows c =
    let h = c.requires.1 in
    (c.equivalence_recipe-table.ensures h.statement h.is).made

pub run-requires-clause-outs : goal.run-requires-clause-outs
run-requires-clause-outs c =
    let h = c.requires.1 in
    (c.equivalence_recipe-table.ensures h.statement h.is).gives_few

pub run-requires-clause-right : goal.run-requires-clause-right
run-requires-clause-right c =
    let a = c.args in
    (c.requires.0, may-run-recipe equivalence_parts lines (slice_index most_of_lines) a.book.now c.equivalence_recipe-table.result.rows.now c.equivalence_recipe-table.result.gives.now a.parts.now a.premises.now a.recipe (slice_index most_of_equivalence_parts a.recipe) c.requires.0 c.equivalence_recipe-table.ensures c.requires.1)

pub returns-clause-concludes : goal.returns-clause-concludes
returns-clause-concludes c = λ gives h.
    let a = c.args in
    c.in_ok-run.ensures.concludes gives (may-run-recipe equivalence_parts lines (slice_index most_of_lines) a.book.now c.equivalence_recipe-table.result.rows.now c.equivalence_recipe-table.result.gives.now a.parts.now a.premises.now a.recipe (slice_index most_of_equivalence_parts a.recipe) gives c.equivalence_recipe-table.ensures h)

pub returns-in_err-run-clause-covered : goal.returns-in_err-run-clause-covered
returns-in_err-run-clause-covered c = λ enough.
    let h = c.requires.1 in
    let adds = (c.equivalence_recipe-table.ensures h.statement h.is).adds in
    let no : false ≡ true = c.in_err-run.ensures.covered (omega (arith, adds, enough)) in
    absurd (cc no)

pub returns-in_err-run-clause-spends : goal.returns-in_err-run-clause-spends
returns-in_err-run-clause-spends c =
    let h = c.requires.1 in
    let adds = (c.equivalence_recipe-table.ensures h.statement h.is).adds in
    let spends = c.in_err-run.ensures.spends in
    omega (arith, adds, spends)

pub returns-clause-spends : goal.returns-clause-spends
returns-clause-spends c =
    let h = c.requires.1 in
    let adds = (c.equivalence_recipe-table.ensures h.statement h.is).adds in
    let spends = c.in_ok-run.ensures.spends in
    omega (arith, adds, spends)
