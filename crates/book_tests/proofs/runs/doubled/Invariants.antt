use Rattle.std.proofs.Common.{◌≡◌, Some}
use Rattle.book.specs.Shown.{book_concludes}
use Rattle.book_tests.specs.Stated.{zeroing}
use Rattle.book_tests.proofs.runs.doubled.Given as goal

abbrev pub invariant-loop : goal.invariant-loop
invariant-loop l = book_concludes l.book l.node.0 ≡ Some zeroing
