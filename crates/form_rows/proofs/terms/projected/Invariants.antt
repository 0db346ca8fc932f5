use Rattle.form_rows.proofs.SystemLaws.{Projected}
use Rattle.form_rows.proofs.terms.projected.Given as goal

abbrev pub invariant-loop-projection : goal.invariant-loop-projection
invariant-loop-projection g l = Projected (g.M.Rows.means l.fn.maker) (g.M.Rows.means l.maker) l.pair l.projections l.projection-index l.row
