use Rattle.std.proofs.Common.{◌≡◌, Some}
use Rattle.trees.specs.Trees.{Tree}
use Rattle.book.specs.Shown.{book_concludes}
use Rattle.book_tests.specs.Stated.{number_said}
use Rattle.book_tests.proofs.growth.successors.Given as goal

abbrev pub invariant-loop : goal.invariant-loop
invariant-loop l = ((t : Tree) × (book_concludes l.book l.number.0 ≡ Some (number_said t)))
