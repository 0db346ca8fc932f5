use Rattle.std.proofs.Common.{◌≡◌, refl, arith}
use Rattle.std.specs.Prelude.{slice_index}
use Rattle.kan_calls.proofs.CallLaws.{is-recipe, recipe-at}
use Rattle.kan_universe.specs.Parts.{equivalence_parts, lines, most_of_equivalence_parts, most_of_lines}
use Rattle.kan_universe.specs.Equivalences.{assemble_statement, eqv_m_statement, eqv_n_statement, eqv_uv_statement, eqv_w_statement}
use Rattle.kan_universe.specs.declared.eqv_uv.TheConstants.{EQV_UV, EQV_UV_GIVES}
use Rattle.kan_universe.specs.declared.eqv_m.TheConstants.{EQV_M, EQV_M_GIVES}
use Rattle.kan_universe.specs.declared.eqv_n.TheConstants.{EQV_N, EQV_N_GIVES}
use Rattle.kan_universe.specs.declared.eqv_w.TheConstants.{EQV_W, EQV_W_GIVES}
use Rattle.kan_universe.specs.declared.assemble.TheConstants.{ASSEMBLE, ASSEMBLE_GIVES}
use Rattle.kan_universe.proofs.parts.equivalence_recipe.Goals as goal

pub returns-in-0 : goal.returns-in-0
returns-in-0 c = λ s at. recipe-at lines (slice_index most_of_lines) equivalence_parts most_of_equivalence_parts eqv_uv_statement s EQV_UV.now EQV_UV_GIVES.now c.args.number 0 c.in-0.is refl
    (is-recipe lines (slice_index most_of_lines) eqv_uv_statement EQV_UV.now EQV_UV_GIVES.now 7798 c.eqv_uv_is_derived.ensures refl) at

pub returns-in-1 : goal.returns-in-1
returns-in-1 c = λ s at. recipe-at lines (slice_index most_of_lines) equivalence_parts most_of_equivalence_parts eqv_m_statement s EQV_M.now EQV_M_GIVES.now c.args.number 1 c.in-1.is refl
    (is-recipe lines (slice_index most_of_lines) eqv_m_statement EQV_M.now EQV_M_GIVES.now 5290 c.eqv_m_is_derived.ensures refl) at

pub returns-in-2 : goal.returns-in-2
returns-in-2 c = λ s at. recipe-at lines (slice_index most_of_lines) equivalence_parts most_of_equivalence_parts eqv_n_statement s EQV_N.now EQV_N_GIVES.now c.args.number 2 c.in-2.is refl
    (is-recipe lines (slice_index most_of_lines) eqv_n_statement EQV_N.now EQV_N_GIVES.now 7202 c.eqv_n_is_derived.ensures refl) at

pub returns-in-3 : goal.returns-in-3
returns-in-3 c = λ s at. recipe-at lines (slice_index most_of_lines) equivalence_parts most_of_equivalence_parts eqv_w_statement s EQV_W.now EQV_W_GIVES.now c.args.number 3 c.in-3.is refl
    (is-recipe lines (slice_index most_of_lines) eqv_w_statement EQV_W.now EQV_W_GIVES.now 7877 c.eqv_w_is_derived.ensures refl) at

pub returns-in_default : goal.returns-in_default
returns-in_default c = λ s at. recipe-at lines (slice_index most_of_lines) equivalence_parts most_of_equivalence_parts assemble_statement s ASSEMBLE.now ASSEMBLE_GIVES.now c.args.number 4 (let lt = c.requires in omega (arith, lt)) refl
    (is-recipe lines (slice_index most_of_lines) assemble_statement ASSEMBLE.now ASSEMBLE_GIVES.now 2569 c.assemble_is_derived.ensures refl) at
