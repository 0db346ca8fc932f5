use Rattle.std.proofs.Common.{◌≡◌, vec_len}
use Rattle.syntax.specs.View.{tree_of}
use Rattle.productions.specs.Machine.{finish_exp as machine_finish_exp}
use Rattle.parser_states.specs.View.{stack_of}
use Rattle.parser_expressions.proofs.wholes.finish_exp.Given as goal

abbrev pub invariant-loop-frame : goal.invariant-loop-frame
invariant-loop-frame l =
    machine_finish_exp (tree_of l.exp) l.past (stack_of l.stack.items)
    ≡ machine_finish_exp (tree_of l.fn.exp) l.past (stack_of l.fn.stack.items)

abbrev pub decreases-loop-frame : goal.decreases-loop-frame
decreases-loop-frame l = vec_len l.stack
