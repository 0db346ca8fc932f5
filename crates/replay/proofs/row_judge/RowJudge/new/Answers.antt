use Rattle.std.proofs.Common.{length}
use Rattle.rows.specs.Shown.{things, store_means}
use Rattle.replay.proofs.row_judge.RowJudge.new.Goals as goal

pub returns-clause-keeps : goal.returns-clause-keeps
returns-clause-keeps c = c.new-2.ensures (length (things c.new-3.result)) (store_means c.new-3.result)
