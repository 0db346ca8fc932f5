use Rattle.std.proofs.Common.{arith}
use Rattle.region.proofs.table.Table.slot_of.Goals as goal

pub unreachable-requires : goal.unreachable-requires
unreachable-requires c = c.loop-at.invariant c.requires.at (omega (arith, c.requires.within)) c.requires.taken c.requires.names
