use Rattle.std.proofs.Common.{◌≡◌, refl, sym, subst}
use Rattle.std.specs.Prelude.{slice_index}
use Rattle.theory.specs.declared.rule.RuleName.TheVariants.{Composition}
use Rattle.theory.specs.declared.rule.CompRule.{CompRule}
use Rattle.theory.specs.declared.rule.CompRule.TheVariants.{CompPi, CompSig, CompPath, CompZero, CompSuc}
use Rattle.kan_fill.specs.Statements.{kan_statements}
use Rattle.kan_calls.specs.Calls.{IsRecipe, most_of_each}
use Rattle.kan_calls.specs.Unfoldings.{unfold_statement}
use Rattle.kan_calls.proofs.CallLaws.{is-recipe}
use Rattle.recipes.specs.declared.row.Row.{Row}
use Rattle.recipes.specs.Derivations.{Derives}
use Rattle.std.specs.Prelude.{ℕ, List, Bool, true}
use Rattle.kan_calls.proofs.CallLaws.{fits}
use Rattle.kan_types.specs.Types.{IsOfTypes}
use Rattle.kan_types.specs.declared.comp_pi.TheConstants.{COMP_PI, COMP_PI_GIVES}
use Rattle.kan_types.specs.declared.comp_sig.TheConstants.{COMP_SIG, COMP_SIG_GIVES}
use Rattle.kan_types.specs.declared.comp_path.TheConstants.{COMP_PATH, COMP_PATH_GIVES}
use Rattle.kan_types.specs.declared.comp_zero.TheConstants.{COMP_ZERO, COMP_ZERO_GIVES}
use Rattle.kan_types.specs.declared.comp_suc.TheConstants.{COMP_SUC, COMP_SUC_GIVES}
use Rattle.kan_types.specs.declared.calls.TheConstants.{ROWS}
use Rattle.kan_types.proofs.calls.recipe_of.Goals as goal

-- a table of one rule is that of a rule which is this one
of-rule : (rule other : CompRule) (rows : List Row) (gives : List ℕ) → rule ≡ other → Derives kan_statements (unfold_statement (Composition other)) rows gives → fits (slice_index most_of_each) (unfold_statement (Composition other)) rows gives ROWS ≡ true → IsRecipe kan_statements (slice_index most_of_each) (unfold_statement (Composition rule)) rows gives ROWS
of-rule rule other rows gives same d e =
    subst (λ r. IsRecipe kan_statements (slice_index most_of_each) (unfold_statement (Composition r)) rows gives ROWS) (sym same)
    (is-recipe kan_statements (slice_index most_of_each) (unfold_statement (Composition other)) rows gives ROWS d e)

only-successors : (rule : CompRule) → IsOfTypes (Composition rule) → (rule ≡ CompPi → ⊥) → (rule ≡ CompSig → ⊥) → (rule ≡ CompPath → ⊥) → (rule ≡ CompZero → ⊥) → rule ≡ CompSuc
only-successors CompPi h f g k m = absurd (f refl)
only-successors CompSig h f g k m = absurd (g refl)
only-successors CompPath h f g k m = absurd (k refl)
only-successors CompZero h f g k m = absurd (m refl)
only-successors CompSuc h f g k m = refl
only-successors _ h f g k m = absurd h

pub returns-in-CompPi-clause-recipe : goal.returns-in-CompPi-clause-recipe
returns-in-CompPi-clause-recipe c = of-rule c.args.rule CompPi COMP_PI.now COMP_PI_GIVES.now c.in-CompPi.is c.functions_are_derived.ensures refl

pub returns-in-CompSig-clause-recipe : goal.returns-in-CompSig-clause-recipe
returns-in-CompSig-clause-recipe c = of-rule c.args.rule CompSig COMP_SIG.now COMP_SIG_GIVES.now c.in-CompSig.is c.pairs_are_derived.ensures refl

pub returns-in-CompPath-clause-recipe : goal.returns-in-CompPath-clause-recipe
returns-in-CompPath-clause-recipe c = of-rule c.args.rule CompPath COMP_PATH.now COMP_PATH_GIVES.now c.in-CompPath.is c.paths_are_derived.ensures refl

pub returns-in-CompZero-clause-recipe : goal.returns-in-CompZero-clause-recipe
returns-in-CompZero-clause-recipe c = of-rule c.args.rule CompZero COMP_ZERO.now COMP_ZERO_GIVES.now c.in-CompZero.is c.zero_is_derived.ensures refl

pub returns-in_default-clause-recipe : goal.returns-in_default-clause-recipe
returns-in_default-clause-recipe c =
    let d = c.in_default in
    of-rule c.args.rule CompSuc COMP_SUC.now COMP_SUC_GIVES.now (only-successors c.args.rule c.requires d.not-CompPi d.not-CompSig d.not-CompPath d.not-CompZero) c.successors_are_derived.ensures refl
