use Rattle.std.proofs.Common.{◌≡◌, refl, sym, subst}
use Rattle.std.specs.Prelude.{slice_index}
use Rattle.theory.specs.declared.rule.RuleName.{RuleName}
use Rattle.theory.specs.declared.rule.RuleName.TheVariants.{Composition}
use Rattle.theory.specs.declared.rule.CompRule.{CompRule}
use Rattle.kan_fill.specs.Statements.{kan_statements}
use Rattle.kan_calls.specs.Calls.{IsRecipe, most_of_each}
use Rattle.kan_calls.specs.Unfoldings.{unfold_statement}
use Rattle.kan_types.specs.Types.{IsOfTypes}
use Rattle.kan_types.specs.declared.calls.TheConstants.{ROWS}
use Rattle.kan_types.proofs.calls.unfold.Goals as goal

is-composition : (rule : RuleName) → IsOfTypes rule → ((r : CompRule) → rule ≡ Composition r → ⊥) → ⊥
is-composition (Composition r) h other = other r refl
is-composition _ h other = h

pub unreachable-requires : goal.unreachable-requires
unreachable-requires c = is-composition c.args.step.now.rule c.requires.of c.in_default.not-Composition

pub recipe_of-requires : goal.recipe_of-requires
recipe_of-requires c = subst (λ r. IsOfTypes r) c.in-Composition.is c.requires.of

pub unfold_by-requires-clause-recipe : goal.unfold_by-requires-clause-recipe
unfold_by-requires-clause-recipe c =
    subst (λ r. IsRecipe kan_statements (slice_index most_of_each) (unfold_statement r) c.recipe_of.result.rows.now c.recipe_of.result.gives.now ROWS) (sym c.in-Composition.is) c.recipe_of.ensures.recipe
