use Rattle.form_rows.proofs.NestLaws.{Nested}
use Rattle.form_rows.proofs.nesting.nested.Given as goal

abbrev pub invariant-loop-at : goal.invariant-loop-at
invariant-loop-at g l = Nested (g.M.Rows.means l.fn.maker) (g.M.Rows.means l.maker) l.op l.rows l.last l.at l.row

abbrev pub decreases-loop-at : goal.decreases-loop-at
decreases-loop-at g l = l.at
