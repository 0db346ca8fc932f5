use Rattle.parser_states.specs.View.{place_of, stack_of}
use Rattle.parser_expressions.proofs.Others.{maybe_other}
use Rattle.parser_expressions.proofs.brackets.maybe.Goals as goal

pub returns-in_default : goal.returns-in_default
returns-in_default c =
    let x = c.args.names in
    let t = c.args.token in
    let n = c.in_default in
    rw (maybe_other x.room x.start x.names x.next (place_of x.place) x.last x.deep c.args.past (stack_of c.args.stack.items) t.start t.end t.kind n.not-Identifier n.not-Colon)
    c.in_application.ensures
