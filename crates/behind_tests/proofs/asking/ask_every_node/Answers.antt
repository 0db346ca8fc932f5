use Rattle.std.proofs.Common.{arith}
use Rattle.literal_types.proofs.GrowthLaws.{extends_extends, extends_itself}
use Rattle.behind_tests.proofs.AskLaws.{concluded_later}
use Rattle.behind_tests.proofs.asking.ask_every_node.Goals as goal

pub loop-node-init : goal.loop-node-init
loop-node-init c = extends_itself c.args.book.now

pub ask-requires : goal.ask-requires
ask-requires c = concluded_later c.loop-node.invariant c.loop-node.node ((c.mark-node-end.ensures.nodes c.loop-node.node).1 (omega arith))

pub loop-node-preserved : goal.loop-node-preserved
loop-node-preserved c = extends_extends c.loop-node.invariant c.ask.ensures
