use Rattle.rows.specs.Shown.{store_means}
use Rattle.closures.specs.Shown.{lists}
use Rattle.closures.specs.Closures.{HeadStands}
use Rattle.row_cases.proofs.opened.head_along.Given as goal

-- each kid on the way binds one variable at most
abbrev pub invariant-loop-at : goal.invariant-loop-at
invariant-loop-at l = HeadStands (store_means l.rows) (lists l.environments) l.at-index l.head
