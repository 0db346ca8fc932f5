use Rattle.parser_states.specs.View.{stack_of}
use Rattle.parser_expressions.proofs.Others.{exp1_other}
use Rattle.parser_expressions.proofs.exps.exp1.Goals as goal

pub returns-in_default : goal.returns-in_default
returns-in_default c =
    let t = c.args.token in
    rw (exp1_other c.args.room c.args.past (stack_of c.args.stack.items) t.start t.end t.kind c.in_default.not-LeftParen) c.exp3.ensures
