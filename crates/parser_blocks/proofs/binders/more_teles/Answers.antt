use Rattle.syntax.specs.View.{teles_of}
use Rattle.parser_states.specs.View.{stack_of, use_of}
use Rattle.parser_blocks.proofs.Others.{teles_none}
use Rattle.parser_blocks.proofs.binders.more_teles.Goals as goal

pub returns-in_default : goal.returns-in_default
returns-in_default c =
    let n = c.in_default in
    let x = c.args.teles in
    teles_none (use_of x.purpose) x.whole x.room (teles_of x.teles) c.args.past (stack_of c.args.stack.items) c.args.token.start c.args.token.end c.args.token.kind n.not-LeftParen n.not-Arrow n.not-Star n.not-Colon
