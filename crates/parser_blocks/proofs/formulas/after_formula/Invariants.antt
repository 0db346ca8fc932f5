use Rattle.std.proofs.Common.{◌≡◌, vec_len}
use Rattle.syntax.specs.View.{formula_of}
use Rattle.productions.specs.Machine.{after_formula as machine_after_formula}
use Rattle.parser_states.specs.View.{inners_of, on, spine_of, stack_of}
use Rattle.parser_blocks.proofs.formulas.after_formula.Given as goal

abbrev pub invariant-loop-frame : goal.invariant-loop-frame
invariant-loop-frame l =
    on l.token (machine_after_formula (spine_of l.spine.value) l.at (inners_of l.frames.items) (formula_of l.formula) l.past (stack_of l.stack.items))
    ≡ on l.token (machine_after_formula (spine_of l.spine.value) l.at (inners_of l.fn.frames.items) (formula_of l.fn.formula) l.past (stack_of l.stack.items))

abbrev pub decreases-loop-frame : goal.decreases-loop-frame
decreases-loop-frame l = vec_len l.frames
