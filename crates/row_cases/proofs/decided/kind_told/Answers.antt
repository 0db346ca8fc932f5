use Rattle.rows.specs.Shown.{store_means}
use Rattle.row_cases.proofs.decided.kind_told.Goals as goal

pub decide-requires-clause-keeps : goal.decide-requires-clause-keeps
decide-requires-clause-keeps c = c.new-conditions.ensures 0 (store_means c.args.rows.now)
