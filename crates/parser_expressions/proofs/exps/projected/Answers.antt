use Rattle.syntax.specs.View.{tree_of}
use Rattle.productions.specs.Words.{word_of}
use Rattle.parser_states.specs.View.{slot_of, stack_of}
use Rattle.parser_expressions.proofs.Others.{projected_other}
use Rattle.parser_expressions.proofs.exps.projected.Goals as goal

pub returns-in_ok-parts-in-None : goal.returns-in_ok-parts-in-None
returns-in_ok-parts-in-None c =
    let x = c.args.part in
    let t = c.args.token in
    rw (projected_other (slot_of x.slot) x.next x.start (tree_of x.exp) x.projections c.args.past (stack_of c.args.stack.items) t.start t.end (word_of t.kind) c.in-None.ensures)
    (rw c.in_ok-parts-in-None.ensures at c.given.ensures)
