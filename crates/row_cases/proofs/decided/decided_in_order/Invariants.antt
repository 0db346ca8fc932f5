use Rattle.rows.specs.Shown.{store_means}
use Rattle.side_conditions.specs.Kept.{KeepsBelow}
use Rattle.row_cases.proofs.decided.decided_in_order.Given as goal

abbrev pub invariant-loop-test : goal.invariant-loop-test
invariant-loop-test l = KeepsBelow l.inner (store_means l.rows) l.conditions
