use Rattle.std.proofs.Common.{◌≡◌, refl, arith}
use Rattle.std.specs.Prelude.{slice_index}
use Rattle.kan_calls.proofs.CallLaws.{is-recipe, recipe-at}
use Rattle.kan_fill.specs.Statements.{kan_statements}
use Rattle.kan_calls.specs.Calls.{most_of_each}
use Rattle.kan_universe.specs.Parts.{lines, most_of_lines}
use Rattle.kan_universe.specs.Lines.{back_statement, cube_statement, line_statement, square_statement}
use Rattle.kan_universe.specs.declared.line.TheConstants.{LINE, LINE_GIVES}
use Rattle.kan_universe.specs.declared.back.TheConstants.{BACK, BACK_GIVES}
use Rattle.kan_universe.specs.declared.square.TheConstants.{SQUARE, SQUARE_GIVES}
use Rattle.kan_universe.specs.declared.cube.TheConstants.{CUBE, CUBE_GIVES}
use Rattle.kan_universe.proofs.lines.line_recipe.Goals as goal

pub returns-in-0 : goal.returns-in-0
returns-in-0 c = λ s at. recipe-at kan_statements (slice_index most_of_each) lines most_of_lines line_statement s LINE.now LINE_GIVES.now c.args.number 0 c.in-0.is refl
    (is-recipe kan_statements (slice_index most_of_each) line_statement LINE.now LINE_GIVES.now 3393 c.line_is_derived.ensures refl) at

pub returns-in-1 : goal.returns-in-1
returns-in-1 c = λ s at. recipe-at kan_statements (slice_index most_of_each) lines most_of_lines back_statement s BACK.now BACK_GIVES.now c.args.number 1 c.in-1.is refl
    (is-recipe kan_statements (slice_index most_of_each) back_statement BACK.now BACK_GIVES.now 3698 c.back_is_derived.ensures refl) at

pub returns-in-2 : goal.returns-in-2
returns-in-2 c = λ s at. recipe-at kan_statements (slice_index most_of_each) lines most_of_lines square_statement s SQUARE.now SQUARE_GIVES.now c.args.number 2 c.in-2.is refl
    (is-recipe kan_statements (slice_index most_of_each) square_statement SQUARE.now SQUARE_GIVES.now 4599 c.square_is_derived.ensures refl) at

pub returns-in_default : goal.returns-in_default
returns-in_default c = λ s at. recipe-at kan_statements (slice_index most_of_each) lines most_of_lines cube_statement s CUBE.now CUBE_GIVES.now c.args.number 3 (let lt = c.requires in omega (arith, lt)) refl
    (is-recipe kan_statements (slice_index most_of_each) cube_statement CUBE.now CUBE_GIVES.now 4191 c.cube_is_derived.ensures refl) at
