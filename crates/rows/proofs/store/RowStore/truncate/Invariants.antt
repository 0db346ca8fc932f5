use Rattle.std.proofs.Common.{◌≡◌, take, length}
use Rattle.rows.specs.Shown.{things}
use Rattle.rows.proofs.store.RowStore.truncate.Given as goal

-- the first rows are those that stay
abbrev pub invariant-loop-self : goal.invariant-loop-self
invariant-loop-self l = take l.len (things l.self) ≡ take l.len (things l.fn.self)

abbrev pub decreases-loop-self : goal.decreases-loop-self
decreases-loop-self l = length (things l.self)
