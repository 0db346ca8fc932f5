use Rattle.typing_tasks.proofs.PlanLaws.{planned}
use Rattle.typing_tasks.proofs.tasks.Tasks.plan.Goals as goal

pub loop-left-preserved : goal.loop-left-preserved
loop-left-preserved c =
    let before = c.loop-left.invariant in
    planned c.args.tasks.now c.loop-left.left.now before.0 c.args.self.now.items.items c.loop-left.self.items.items c.push.new.self.items c.last-item.result c.in-len1-up.len_at_least c.last-item.is before.1 before.2 c.in_ok-push.ensures.items
