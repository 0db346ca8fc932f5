use Rattle.std.proofs.Common.{refl, sym, subst}
use Rattle.std.specs.Prelude.{slice_index}
use Rattle.theory.specs.declared.rule.RuleName.TheVariants.{Composition}
use Rattle.theory.specs.declared.rule.CompRule.TheVariants.{CompGlue}
use Rattle.kan_calls.specs.Calls.{IsRecipe}
use Rattle.kan_calls.specs.Unfoldings.{unfold_statement}
use Rattle.kan_calls.proofs.CallLaws.{is-recipe}
use Rattle.kan_glue.specs.Parts.{glue_parts, most_of_glue_parts}
use Rattle.kan_glue.specs.declared.comp_glue.TheConstants.{COMP_GLUE, COMP_GLUE_GIVES}
use Rattle.kan_glue.specs.declared.calls.TheConstants.{ROWS}
use Rattle.kan_glue.proofs.calls.unfold.Goals as goal

pub unfold_by-requires-clause-recipe : goal.unfold_by-requires-clause-recipe
unfold_by-requires-clause-recipe c =
    subst (λ r. IsRecipe glue_parts (slice_index most_of_glue_parts) (unfold_statement r) COMP_GLUE.now COMP_GLUE_GIVES.now ROWS) (sym c.requires.of)
    (is-recipe glue_parts (slice_index most_of_glue_parts) (unfold_statement (Composition CompGlue)) COMP_GLUE.now COMP_GLUE_GIVES.now ROWS c.comp_glue_is_derived.ensures refl)
