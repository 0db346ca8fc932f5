use Rattle.std.proofs.Common.{arith, refl}
use Rattle.form_rows.proofs.SystemLaws.{lifting_more, lifting_all, lifting_tree}
use Rattle.form_rows.proofs.systems.all_lifted.Goals as goal

pub lifted-requires : goal.lifted-requires
lifted-requires g c = lifting_tree c.requires c.loop-row.invariant (omega arith)

pub loop-row-preserved : goal.loop-row-preserved
loop-row-preserved g c =
    lifting_more _ _ c.in_ok-push.ensures.items c.loop-row.invariant (omega arith) refl c.lifted.ensures.kept c.in_ok-lifted.ensures.lifted

pub returns-clause-lifted : goal.returns-clause-lifted
returns-clause-lifted g c ts a = lifting_all ts c.loop-row.invariant (omega arith) a
