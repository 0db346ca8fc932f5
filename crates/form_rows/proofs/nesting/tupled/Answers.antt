use Rattle.std.proofs.Common.{arith}
use Rattle.form_rows.proofs.RowLaws.{first_are, tree_at}
use Rattle.form_rows.proofs.NestLaws.{tupled_last, tupled_none}
use Rattle.form_rows.proofs.nesting.tupled.Goals as goal

pub nested-requires-clause-rows : goal.nested-requires-clause-rows
nested-requires-clause-rows g c = (_, first_are _ c.requires.rows.1)

pub nested-requires-clause-last : goal.nested-requires-clause-last
nested-requires-clause-last g c = let n = c.in-len1-up.len_at_least in tree_at _ _ _ c.requires.rows (omega arith)

pub returns-in_ok-make-in-empty-clause-nested : goal.returns-in_ok-make-in-empty-clause-nested
returns-in_ok-make-in-empty-clause-nested g c ts a = tupled_none _ _ ts c.in-empty.len_below c.requires.zero a c.in_ok-make-in-empty.ensures.meaning

pub returns-in_ok-nested-in-len1-up-clause-nested : goal.returns-in_ok-nested-in-len1-up-clause-nested
returns-in_ok-nested-in-len1-up-clause-nested g c ts a = let n = c.in-len1-up.len_at_least in tupled_last _ _ _ ts (omega arith) a c.in_ok-nested-in-len1-up.ensures.nested
