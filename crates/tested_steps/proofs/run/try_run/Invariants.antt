use Rattle.std.proofs.Common.{◌≡◌, length}
use Rattle.book.specs.Shown.{Extends}
use Rattle.tested_steps.proofs.run.try_run.Given as goal

abbrev pub invariant-loop-row : goal.invariant-loop-row
invariant-loop-row l = record {
  count : length l.made ≡ l.row-index;
  extends : Extends l.fn.book l.book;
}
