use Rattle.std.proofs.Common.{arith}
use Rattle.form_rows.proofs.SystemLaws.{projected_step, projected_all}
use Rattle.form_rows.proofs.terms.projected.Goals as goal

pub loop-projection-preserved : goal.loop-projection-preserved
loop-projection-preserved g c =
    projected_step _ _ c.in_ok-row.row (omega arith) c.taken_by.ensures c.loop-projection.invariant c.make.ensures.kept c.in_ok-row.ensures.meaning

pub returns-clause-projected : goal.returns-clause-projected
returns-clause-projected g c t a = projected_all t c.loop-projection.invariant (omega arith) a
