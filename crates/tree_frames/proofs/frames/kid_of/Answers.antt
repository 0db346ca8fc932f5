use Rattle.std.proofs.Common.{◌-◌}
use Rattle.closures.specs.Environments.{deepest}
use Rattle.closures.specs.Shown.{lists}
use Rattle.tree_frames.proofs.FrameLaws.{is-kid-at}
use Rattle.tree_frames.proofs.frames.kid_of.Goals as goal

pub returns : goal.returns
returns g c =
    is-kid-at (g.R.Rows.means c.args.rows.now) (lists c.args.environments.now) (deepest - 1) c.args.frame.now c.args.at c.kid.result c.requires.stands c.requires.place c.kid.ensures.row c.kid.ensures.list c.kid.ensures.within
