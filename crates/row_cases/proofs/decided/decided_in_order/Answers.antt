use Rattle.rows.specs.Shown.{store_means}
use Rattle.row_cases.proofs.decided.decided_in_order.Goals as goal

pub loop-test-init : goal.loop-test-init
loop-test-init c = c.new-conditions.ensures c.args.arg3.1 (store_means c.args.rows.now)
