use Rattle.parser_states.specs.View.{stack_of}
use Rattle.parser_expressions.proofs.Others.{exp_other}
use Rattle.parser_expressions.proofs.exps.exp.Goals as goal

pub returns-in_default : goal.returns-in_default
returns-in_default c =
    let t = c.args.token in
    let n = c.in_default in
    rw (exp_other c.args.room c.args.past (stack_of c.args.stack.items) t.start t.end t.kind n.not-Let n.not-Backslash n.not-Less) c.exp1.ensures
