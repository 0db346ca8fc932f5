use Rattle.parser_states.specs.View.{stack_of}
use Rattle.parser_blocks.proofs.Others.{after_import_none}
use Rattle.parser_blocks.proofs.defs.after_import.Goals as goal

pub returns-in_default : goal.returns-in_default
returns-in_default c =
    let n = c.in_default in
    after_import_none c.args.name c.args.imports c.args.past (stack_of c.args.stack.items) c.args.token.start c.args.token.end c.args.token.kind n.not-Next n.not-Close
