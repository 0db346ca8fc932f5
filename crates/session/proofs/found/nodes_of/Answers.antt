use Rattle.session.proofs.NodeLaws.{push_root}
use Rattle.session.proofs.found.nodes_of.Goals as goal

pub loop-root-preserved : goal.loop-root-preserved
loop-root-preserved c =
    push_root c.push-in-loop-root.new.self.items c.push.new.self.items c.loop-root.nodes.items c.args.roots.now c.loop-root.root-index _
    c.loop-root-test.true c.loop-root.invariant c.in_ok-push.ensures.items c.in_ok-push-2.ensures.items
