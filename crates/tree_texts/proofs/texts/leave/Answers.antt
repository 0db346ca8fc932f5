use Rattle.std.proofs.Common.{◌-◌, arith}
use Rattle.closures.specs.Environments.{deepest}
use Rattle.closures.specs.Shown.{lists}
use Rattle.tree_texts.proofs.TaskLaws.{leaves-kid, leaves-none}
use Rattle.tree_texts.proofs.texts.leave.Goals as goal

pub returns-in_ok-push-2 : goal.returns-in_ok-push-2
returns-in_ok-push-2 g c =
    leaves-kid (g.R.Rows.means c.args.rows.now) (lists c.args.environments.now) (deepest - 1) c.args.frame c.kid-closure.result c.kid_sort.result _ c.args.tasks.now.items c.push.new.self.items c.push-then-frame-kid_count.new.self.items
    c.requires.stands (rw (← c.kid_count.ensures) c.if-frame-kid_count.true) c.kid-closure.ensures.row c.kid-closure.ensures.list c.kid-closure.ensures.within c.kid_sort.ensures (omega (arith, c.from.ensures, c.binds.ensures)) c.in_ok-push.ensures.items c.in_ok-push-2.ensures.items

pub returns-else-frame-kid_count : goal.returns-else-frame-kid_count
returns-else-frame-kid_count g c =
    leaves-none (g.R.Rows.means c.args.rows.now) (lists c.args.environments.now) (deepest - 1) c.args.frame c.args.tasks.now.items c.requires.stands (rw (← c.kid_count.ensures) c.if-frame-kid_count.false)
