use Rattle.parser_states.specs.View.{stack_of}
use Rattle.parser_blocks.proofs.Others.{item_other}
use Rattle.parser_blocks.proofs.defs.item.Goals as goal

pub returns-in_ok-under-in_default : goal.returns-in_ok-under-in_default
returns-in_ok-under-in_default c =
    let a = c.args in
    let t = c.args.token in
    rw (item_other a.name a.imports a.past (stack_of a.stack.items) t.start t.end t.kind c.in_default.not-Import)
    (rw (c.in_ok-under-in_default.ensures, c.new.ensures) at c.def.ensures)
