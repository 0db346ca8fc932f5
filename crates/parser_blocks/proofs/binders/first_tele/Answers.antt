use Rattle.parser_states.specs.View.{stack_of}
use Rattle.parser_blocks.proofs.Others.{first_tele_none}
use Rattle.parser_blocks.proofs.binders.first_tele.Goals as goal

pub returns-in_default : goal.returns-in_default
returns-in_default c =
    let n = c.in_default in
    first_tele_none c.args.room c.args.start c.args.past (stack_of c.args.stack.items) c.args.token.start c.args.token.end c.args.token.kind n.not-LeftParen
