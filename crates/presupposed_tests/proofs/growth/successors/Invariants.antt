use Rattle.presupposed_tests.specs.Grown.{IsNumber}
use Rattle.presupposed_tests.proofs.growth.successors.Given as goal

abbrev pub invariant-loop : goal.invariant-loop
invariant-loop l = IsNumber l.book l.number
