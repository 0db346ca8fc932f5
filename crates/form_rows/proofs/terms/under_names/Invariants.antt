use Rattle.form_rows.proofs.SystemLaws.{Lambdas}
use Rattle.form_rows.proofs.terms.under_names.Given as goal

abbrev pub invariant-loop-name : goal.invariant-loop-name
invariant-loop-name g l = Lambdas (g.M.Rows.means l.fn.maker) (g.M.Rows.means l.maker) l.body l._name l.row
