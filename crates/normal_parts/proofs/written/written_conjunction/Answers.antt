use Rattle.std.proofs.Common.{◌-◌}
use Rattle.closures.specs.Environments.{deepest}
use Rattle.closures.specs.Shown.{lists}
use Rattle.closures.proofs.HeadLaws.{closure-grows}
use Rattle.normal_parts.proofs.written.written_conjunction.Goals as goal

pub product_of-requires-2 : goal.product_of-requires-2
product_of-requires-2 g c = closure-grows (g.R.Rows.means c.args.rows.now) (lists c.args.environments.now) (lists c.product_of.new.environments) (deepest - 1) c.args.written c.product_of.ensures.grows c.requires.second
