use Rattle.parser_states.specs.View.{stack_of}
use Rattle.parser_blocks.proofs.Others.{first_def_other}
use Rattle.parser_blocks.proofs.defs.first_def.Goals as goal

pub returns-in_default : goal.returns-in_default
returns-in_default c =
    let a = c.args in
    let t = c.args.token in
    rw (first_def_other a.room a.past (stack_of a.stack.items) t.start t.end t.kind c.in_default.not-Close)
    (rw c.new-in_default.ensures at c.def.ensures)
