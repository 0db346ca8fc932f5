use Rattle.std.proofs.Common.{take}
use Rattle.std.specs.List.{All}
use Rattle.rows.specs.Views.{IsTree}
use Rattle.book.specs.Shown.{book_means}
use Rattle.tested_steps.proofs.making.are_trees.Given as goal

-- those so far are trees
abbrev pub invariant-loop-row : goal.invariant-loop-row
invariant-loop-row l = All (λ row. IsTree (book_means l.book row)) (take l.row-index l.rows)
