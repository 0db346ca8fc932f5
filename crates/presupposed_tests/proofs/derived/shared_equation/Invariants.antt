use Rattle.presupposed_tests.specs.Grown.{IsEquation}
use Rattle.presupposed_tests.proofs.derived.shared_equation.Given as goal

abbrev pub invariant-loop : goal.invariant-loop
invariant-loop l = IsEquation l.book l.equation
