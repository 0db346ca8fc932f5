use Rattle.std.proofs.Common.{◌++◌, ◌+◌, refl, ◌∙◌, ap}
use Rattle.closures.specs.Shown.{lists}
use Rattle.tree_texts.proofs.TaskLaws.{opens-rest}
use Rattle.tree_texts.proofs.texts.go_on.Goals as goal

pub returns : goal.returns
returns g c =
    opens-rest (g.R.Rows.means c.args.rows.now) (lists c.args.environments.now) c.args.frame (c.args.frame.at + 1) c.args.into.now.items c.extend_from_slice.new.self.items c.args.tasks.now.items c.leave.new.tasks.items
    refl (c.in_ok-extend_from_slice.ensures.items ∙ ap (λ w. c.args.into.now.items ++ w) c.after_kid.ensures) c.in_ok-leave.ensures
