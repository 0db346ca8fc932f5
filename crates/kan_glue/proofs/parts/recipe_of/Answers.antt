use Rattle.std.proofs.Common.{◌≡◌, refl, arith}
use Rattle.std.specs.Prelude.{slice_index}
use Rattle.kan_calls.proofs.CallLaws.{is-recipe, recipe-at}
use Rattle.kan_fill.specs.Statements.{kan_statements}
use Rattle.kan_calls.specs.Calls.{most_of_each}
use Rattle.kan_glue.specs.Parts.{glue_parts, most_of_glue_parts}
use Rattle.kan_glue.specs.Steps.{extend_statement, glue_all_statement, glue_base_statement, reglue_statement}
use Rattle.kan_glue.specs.declared.glue_base.TheConstants.{GLUE_BASE, GLUE_BASE_GIVES}
use Rattle.kan_glue.specs.declared.glue_all.TheConstants.{GLUE_ALL, GLUE_ALL_GIVES}
use Rattle.kan_glue.specs.declared.extend.TheConstants.{EXTEND, EXTEND_GIVES}
use Rattle.kan_glue.specs.declared.reglue.TheConstants.{REGLUE, REGLUE_GIVES}
use Rattle.kan_glue.proofs.parts.recipe_of.Goals as goal

pub returns-in-0 : goal.returns-in-0
returns-in-0 c = λ s at. recipe-at kan_statements (slice_index most_of_each) glue_parts most_of_glue_parts glue_base_statement s GLUE_BASE.now GLUE_BASE_GIVES.now c.args.number 0 c.in-0.is refl
    (is-recipe kan_statements (slice_index most_of_each) glue_base_statement GLUE_BASE.now GLUE_BASE_GIVES.now 687 c.glue_base_is_derived.ensures refl) at

pub returns-in-1 : goal.returns-in-1
returns-in-1 c = λ s at. recipe-at kan_statements (slice_index most_of_each) glue_parts most_of_glue_parts glue_all_statement s GLUE_ALL.now GLUE_ALL_GIVES.now c.args.number 1 c.in-1.is refl
    (is-recipe kan_statements (slice_index most_of_each) glue_all_statement GLUE_ALL.now GLUE_ALL_GIVES.now 7433 c.glue_all_is_derived.ensures refl) at

pub returns-in-2 : goal.returns-in-2
returns-in-2 c = λ s at. recipe-at kan_statements (slice_index most_of_each) glue_parts most_of_glue_parts extend_statement s EXTEND.now EXTEND_GIVES.now c.args.number 2 c.in-2.is refl
    (is-recipe kan_statements (slice_index most_of_each) extend_statement EXTEND.now EXTEND_GIVES.now 2091 c.extend_is_derived.ensures refl) at

pub returns-in_default : goal.returns-in_default
returns-in_default c = λ s at. recipe-at kan_statements (slice_index most_of_each) glue_parts most_of_glue_parts reglue_statement s REGLUE.now REGLUE_GIVES.now c.args.number 3 (let lt = c.requires in omega (arith, lt)) refl
    (is-recipe kan_statements (slice_index most_of_each) reglue_statement REGLUE.now REGLUE_GIVES.now 1572 c.reglue_is_derived.ensures refl) at
