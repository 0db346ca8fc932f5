use Rattle.productions.specs.Words.{word_of}
use Rattle.parser_states.specs.View.{place_of, stack_of}
use Rattle.parser_expressions.proofs.Others.{exp3_other}
use Rattle.parser_expressions.proofs.exps.exp3.Goals as goal

pub returns-in-None : goal.returns-in-None
returns-in-None c =
    let t = c.args.token in
    rw (exp3_other (place_of c.args.place) c.args.past (stack_of c.args.stack.items) t.start t.end (word_of t.kind) c.in-None.ensures) c.exp5.ensures
