use Rattle.std.proofs.Common.{[], refl}
use Rattle.recipes.specs.Derivations.{conclusions_at}
use Rattle.book_tests.specs.Stated.{two_statement, successor_statement, earlier}
use Rattle.book_tests.specs.declared.two.TheConstants.{TWO, TWO_GIVES}
use Rattle.book_tests.specs.declared.successor.TheConstants.{SUCCESSOR, SUCCESSOR_GIVES}
use Rattle.book_tests.proofs.RunLaws.{may-try}
use Rattle.book_tests.proofs.tests.calls_within_the_spare_are_not_out_of_memory.Goals as goal

pub given-requires-clause-right : goal.given-requires-clause-right
given-requires-clause-right g c = (conclusions_at two_statement [], may-try earlier two_statement TWO.now TWO_GIVES.now refl refl refl c.two_is_derived.ensures)

pub given-requires-then-is_ok-clause-right : goal.given-requires-then-is_ok-clause-right
given-requires-then-is_ok-clause-right g c = (conclusions_at successor_statement [], may-try earlier successor_statement SUCCESSOR.now SUCCESSOR_GIVES.now refl refl refl c.successor_is_derived.ensures)
