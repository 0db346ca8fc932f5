use Rattle.std.proofs.Common.{take}
use Rattle.std.specs.List.{All}
use Rattle.rows.specs.Views.{IsTree}
use Rattle.rows.specs.Shown.{store_means}
use Rattle.rows.proofs.store.RowStore.all_terms.Given as goal

-- those so far are trees
abbrev pub invariant-loop-row : goal.invariant-loop-row
invariant-loop-row l = All (λ row. IsTree (store_means l.self row)) (take l.row-index l.rows)
