use Rattle.parser_states.specs.View.{owner_of, stack_of}
use Rattle.parser_blocks.proofs.Others.{first_side_other}
use Rattle.parser_blocks.proofs.systems.first_side.Goals as goal

pub returns-in_default : goal.returns-in_default
returns-in_default c =
    let a = c.args in
    let t = c.args.token in
    rw (first_side_other (owner_of a.owner) a.past (stack_of a.stack.items) t.start t.end t.kind c.in_default.not-RightBracket)
    (rw (c.room.ensures, c.new-in_default.ensures, c.new-in_default-2.ensures) at c.side.ensures)
