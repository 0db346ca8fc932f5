use Rattle.parser_states.specs.View.{stack_of}
use Rattle.parser_expressions.proofs.Others.{opened_other}
use Rattle.parser_expressions.proofs.brackets.opened.Goals as goal

pub returns-in_ok-stack-in_default : goal.returns-in_ok-stack-in_default
returns-in_ok-stack-in_default c =
    let a = c.args in
    let t = c.args.token in
    rw (opened_other a.room a.start a.past (stack_of a.stack.items) t.start t.end t.kind c.in_default.not-Identifier)
    (rw (c.in_ok-stack-in_default.ensures, c.saturating_sub-inner.ensures) at c.exp.ensures)
