use Rattle.std.proofs.Common.{[], refl}
use Rattle.recipes.specs.Derivations.{conclusions_at}
use Rattle.book_tests.specs.Stated.{two_statement, earlier}
use Rattle.book_tests.specs.declared.two.TheConstants.{TWO, TWO_GIVES}
use Rattle.book_tests.proofs.RunLaws.{may-try}
use Rattle.book_tests.proofs.tests.two_is_a_number.Goals as goal

pub verdict-requires-clause-right : goal.verdict-requires-clause-right
verdict-requires-clause-right g c = (conclusions_at two_statement [], may-try earlier two_statement TWO.now TWO_GIVES.now refl refl refl c.two_is_derived.ensures)
