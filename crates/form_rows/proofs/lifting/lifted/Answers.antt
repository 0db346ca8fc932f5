use Rattle.form_rows.proofs.RowLaws.{lifted_none}
use Rattle.form_rows.proofs.lifting.lifted.Goals as goal

pub returns-then-by-eq0-clause-lifted : goal.returns-then-by-eq0-clause-lifted
returns-then-by-eq0-clause-lifted g c t h = lifted_none c.args.by t c.if-by-eq0.true h
