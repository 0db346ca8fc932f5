use Rattle.std.proofs.Common.{◌≡◌, refl, arith}
use Rattle.std.specs.Prelude.{slice_index}
use Rattle.kan_calls.proofs.CallLaws.{is-recipe, recipe-at}
use Rattle.kan_universe.specs.Parts.{equivalence_parts, most_of_equivalence_parts, most_of_universe_parts, universe_parts}
use Rattle.glue_entries.specs.Statements.{equiv_tycong_statement}
use Rattle.kan_universe.specs.Equivalences.{eqv_statement}
use Rattle.kan_universe.specs.declared.eqv.TheConstants.{EQV, EQV_GIVES}
use Rattle.glue_entries.specs.declared.equiv_tycong.TheConstants.{EQUIV_TYCONG, EQUIV_TYCONG_GIVES}
use Rattle.recipe_runner.proofs.FlatLaws.{flat-derives}
use Rattle.kan_universe.proofs.parts.universe_recipe.Goals as goal

pub returns-in-0 : goal.returns-in-0
returns-in-0 c = λ s at. recipe-at equivalence_parts (slice_index most_of_equivalence_parts) universe_parts most_of_universe_parts eqv_statement s EQV.now EQV_GIVES.now c.args.number 0 c.in-0.is refl
    (is-recipe equivalence_parts (slice_index most_of_equivalence_parts) eqv_statement EQV.now EQV_GIVES.now 32956 c.eqv_is_derived.ensures refl) at

pub returns-in_default : goal.returns-in_default
returns-in_default c = λ s at. recipe-at equivalence_parts (slice_index most_of_equivalence_parts) universe_parts most_of_universe_parts equiv_tycong_statement s EQUIV_TYCONG.now EQUIV_TYCONG_GIVES.now c.args.number 1 (let lt = c.requires in omega (arith, lt)) refl
    (is-recipe equivalence_parts (slice_index most_of_equivalence_parts) equiv_tycong_statement EQUIV_TYCONG.now EQUIV_TYCONG_GIVES.now 1495 (flat-derives equivalence_parts equiv_tycong_statement EQUIV_TYCONG.now EQUIV_TYCONG_GIVES.now c.equivalences_are_derived.ensures.derived) refl) at
