use Rattle.behind_tests.specs.Telescopes.{IsClosed, IsTypedClosed}
use Rattle.behind_tests.proofs.telescope.applied_to_all.Given as goal

abbrev pub invariant-loop : goal.invariant-loop
invariant-loop l = IsTypedClosed l.book l.typed × IsClosed l.book l.numbers × IsClosed l.book l.number
