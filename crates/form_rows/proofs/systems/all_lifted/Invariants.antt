use Rattle.form_rows.proofs.SystemLaws.{Lifting}
use Rattle.form_rows.proofs.systems.all_lifted.Given as goal

abbrev pub invariant-loop-row : goal.invariant-loop-row
invariant-loop-row g l = Lifting (g.M.Rows.means l.fn.maker) (g.M.Rows.means l.maker) l.rows l.row-index l.all.items
