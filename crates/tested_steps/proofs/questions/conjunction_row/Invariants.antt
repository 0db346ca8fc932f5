use Rattle.book.specs.Shown.{Extends}
use Rattle.tested_steps.proofs.questions.conjunction_row.Given as goal

abbrev pub invariant-loop-equation : goal.invariant-loop-equation
invariant-loop-equation l = Extends l.fn.book l.book
