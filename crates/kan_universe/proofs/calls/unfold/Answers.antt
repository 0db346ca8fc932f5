use Rattle.std.proofs.Common.{refl, sym, subst}
use Rattle.std.specs.Prelude.{slice_index}
use Rattle.theory.specs.declared.rule.RuleName.TheVariants.{Composition}
use Rattle.theory.specs.declared.rule.CompRule.TheVariants.{CompU}
use Rattle.kan_calls.specs.Calls.{IsRecipe}
use Rattle.kan_calls.specs.Unfoldings.{unfold_statement}
use Rattle.kan_calls.proofs.CallLaws.{is-recipe}
use Rattle.kan_universe.specs.Parts.{universe_parts, most_of_universe_parts}
use Rattle.kan_universe.specs.declared.comp_u.TheConstants.{COMP_U, COMP_U_GIVES}
use Rattle.kan_universe.specs.declared.calls.TheConstants.{ROWS}
use Rattle.kan_universe.proofs.calls.unfold.Goals as goal

pub unfold_by-requires-clause-recipe : goal.unfold_by-requires-clause-recipe
unfold_by-requires-clause-recipe c =
    subst (λ r. IsRecipe universe_parts (slice_index most_of_universe_parts) (unfold_statement r) COMP_U.now COMP_U_GIVES.now ROWS) (sym c.requires.of)
    (is-recipe universe_parts (slice_index most_of_universe_parts) (unfold_statement (Composition CompU)) COMP_U.now COMP_U_GIVES.now ROWS c.comp_u_is_derived.ensures refl)
