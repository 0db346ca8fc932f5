use Rattle.std.proofs.Common.{◌+◌, ◌≤◌, List, [], take, drop, length}
use Rattle.book.specs.Shown.{Extends}
use Rattle.recipes.specs.Made.{Made}
use Rattle.recipe_runner.specs.Running.{GoesOn, most_added_by, most_made_by}
use Rattle.recipe_runner.proofs.interpreter.run.Given as goal

abbrev pub invariant-loop-row : goal.invariant-loop-row
invariant-loop-row g l = record {
  count : length l.made ≤ most_made_by (take l.row-index l.rows);
  extends : Extends l.fn.book l.book;
  spent : l.fn.book.spare ≤ l.book.spare + most_added_by (g.E.Earlier.most l.earlier) (take l.row-index l.rows);
  goes : (whole : List Made) → GoesOn (g.E.Earlier.states l.earlier) l.fn.book l.parts l.premises [] l.rows whole → GoesOn (g.E.Earlier.states l.earlier) l.book l.parts l.premises l.made (drop l.row-index l.rows) whole;
}
