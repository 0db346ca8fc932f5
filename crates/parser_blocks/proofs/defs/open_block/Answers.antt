use Rattle.parser_states.specs.View.{stack_of}
use Rattle.parser_blocks.proofs.Others.{open_block_none}
use Rattle.parser_blocks.proofs.defs.open_block.Goals as goal

pub returns-in_default : goal.returns-in_default
returns-in_default c =
    let n = c.in_default in
    open_block_none c.args.room c.args.past (stack_of c.args.stack.items) c.args.token.start c.args.token.end c.args.token.kind n.not-Open
