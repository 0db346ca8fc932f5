use Rattle.std.proofs.Common.{◌≡◌, vec_len}
use Rattle.syntax.specs.View.{formula_of}
use Rattle.productions.specs.Machine.{after_conj as machine_after_conj}
use Rattle.parser_states.specs.View.{inners_of, on, spine_of, stack_of}
use Rattle.parser_blocks.proofs.formulas.after_conj.Given as goal

abbrev pub invariant-loop-frame : goal.invariant-loop-frame
invariant-loop-frame l =
    on l.token (machine_after_conj (spine_of l.spine.value) l.at (inners_of l.frames.items) l.operand.room l.operand.start (formula_of l.operand.formula) l.past (stack_of l.stack.items))
    ≡ on l.token (machine_after_conj (spine_of l.spine.value) l.at (inners_of l.fn.frames.items) l.fn.operand.room l.fn.operand.start (formula_of l.fn.operand.formula) l.past (stack_of l.stack.items))

abbrev pub decreases-loop-frame : goal.decreases-loop-frame
decreases-loop-frame l = vec_len l.frames
