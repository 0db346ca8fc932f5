use Rattle.std.proofs.Common.{◌≡◌, ◌<◌, false, true, arith}
use Rattle.std.specs.Prelude.{slice_index}
use Rattle.std.proofs.lemmas.Option.{slice_get_within}
use Rattle.kan_calls.proofs.CallLaws.{may-run-recipe}
use Rattle.kan_fill.specs.Statements.{kan_statements}
use Rattle.kan_calls.specs.Calls.{most_of_each}
use Rattle.kan_glue.specs.Parts.{glue_parts, most_of_glue_parts}
use Rattle.kan_glue.proofs.parts.GluePartsEarlier.derive.Goals as goal

pub recipe_of-table-requires : goal.recipe_of-table-requires
recipe_of-table-requires c =
    let a = c.args in
    let h = c.requires.1 in
    let lt = slice_get_within glue_parts a.recipe h.statement h.is in
    omega (arith, lt)

pub run-requires-clause-rows : goal.run-requires-clause-rows
run-requires-clause-rows c =
    let h = c.requires.1 in
    (c.recipe_of-table.ensures h.statement h.is).made

pub run-requires-clause-outs : goal.run-requires-clause-outs
run-requires-clause-outs c =
    let h = c.requires.1 in
    (c.recipe_of-table.ensures h.statement h.is).gives_few

pub run-requires-clause-right : goal.run-requires-clause-right
run-requires-clause-right c =
    let a = c.args in
    (c.requires.0, may-run-recipe glue_parts kan_statements (slice_index most_of_each) a.book.now c.recipe_of-table.result.rows.now c.recipe_of-table.result.gives.now a.parts.now a.premises.now a.recipe (slice_index most_of_glue_parts a.recipe) c.requires.0 c.recipe_of-table.ensures c.requires.1)

pub returns-clause-concludes : goal.returns-clause-concludes
returns-clause-concludes c = λ gives h.
    let a = c.args in
    c.in_ok-run.ensures.concludes gives (may-run-recipe glue_parts kan_statements (slice_index most_of_each) a.book.now c.recipe_of-table.result.rows.now c.recipe_of-table.result.gives.now a.parts.now a.premises.now a.recipe (slice_index most_of_glue_parts a.recipe) gives c.recipe_of-table.ensures h)

pub returns-in_err-run-clause-covered : goal.returns-in_err-run-clause-covered
returns-in_err-run-clause-covered c = λ enough.
    let h = c.requires.1 in
    let adds = (c.recipe_of-table.ensures h.statement h.is).adds in
    let no : false ≡ true = c.in_err-run.ensures.covered (omega (arith, adds, enough)) in
    absurd (cc no)

pub returns-in_err-run-clause-spends : goal.returns-in_err-run-clause-spends
returns-in_err-run-clause-spends c =
    let h = c.requires.1 in
    let adds = (c.recipe_of-table.ensures h.statement h.is).adds in
    let spends = c.in_err-run.ensures.spends in
    omega (arith, adds, spends)

pub returns-clause-spends : goal.returns-clause-spends
returns-clause-spends c =
    let h = c.requires.1 in
    let adds = (c.recipe_of-table.ensures h.statement h.is).adds in
    let spends = c.in_ok-run.ensures.spends in
    omega (arith, adds, spends)
