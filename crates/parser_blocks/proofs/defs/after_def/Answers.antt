use Rattle.syntax.specs.View.{defs_of}
use Rattle.parser_states.specs.View.{stack_of}
use Rattle.parser_blocks.proofs.Others.{after_def_none}
use Rattle.parser_blocks.proofs.defs.after_def.Goals as goal

pub returns-in_default : goal.returns-in_default
returns-in_default c =
    let n = c.in_default in
    after_def_none c.args.fall c.args.room (defs_of c.args.defs) c.args.past (stack_of c.args.stack.items) c.args.token.start c.args.token.end c.args.token.kind n.not-Next n.not-Close
