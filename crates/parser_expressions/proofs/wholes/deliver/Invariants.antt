use Rattle.std.proofs.Common.{◌≡◌, vec_len}
use Rattle.syntax.specs.View.{tree_of}
use Rattle.productions.specs.Machine.{deliver as step_deliver}
use Rattle.parser_states.specs.View.{on, stack_of}
use Rattle.parser_expressions.proofs.wholes.deliver.Given as goal

abbrev pub invariant-loop-frame : goal.invariant-loop-frame
invariant-loop-frame l =
    on l.token (step_deliver (tree_of l.exp) l.past (stack_of l.stack.items))
    ≡ on l.token (step_deliver (tree_of l.fn.exp) l.past (stack_of l.fn.stack.items))

abbrev pub decreases-loop-frame : goal.decreases-loop-frame
decreases-loop-frame l = vec_len l.stack
