use Rattle.form_rows.proofs.FaceLaws.{Faced}
use Rattle.form_rows.proofs.formulas.face.Given as goal

abbrev pub invariant-loop-each : goal.invariant-loop-each
invariant-loop-each g l = Faced (g.M.Rows.means l.fn.maker) (g.M.Rows.means l.maker) l.equations l.each-index l.rows.items
