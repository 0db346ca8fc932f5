use Rattle.form_rows.proofs.SystemLaws.{Sided}
use Rattle.form_rows.proofs.systems.system.Given as goal

abbrev pub invariant-loop-at : goal.invariant-loop-at
invariant-loop-at g l = Sided (g.M.Rows.means l.fn.maker) (g.M.Rows.means l.maker) l.faces l.values l.at l.others l.row

abbrev pub decreases-loop-at : goal.decreases-loop-at
decreases-loop-at g l = l.at
