use Rattle.syntax.specs.View.{sides_of}
use Rattle.parser_states.specs.View.{owner_of, stack_of}
use Rattle.parser_blocks.proofs.Others.{sign_none}
use Rattle.parser_blocks.proofs.systems.sign.Goals as goal

pub returns-in_default : goal.returns-in_default
returns-in_default c =
    let n = c.in_default in
    let x = c.args.sides in
    sign_none (owner_of x.owner) x.room (sides_of x.sides) x.equations c.args.name c.args.past (stack_of c.args.stack.items) c.args.token.start c.args.token.end c.args.token.kind n.not-Equals
