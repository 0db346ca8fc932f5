use Rattle.std.proofs.Common.{[], refl}
use Rattle.recipes.specs.Derivations.{conclusions_at}
use Rattle.book_tests.specs.Stated.{successor_statement, earlier}
use Rattle.book_tests.specs.declared.successor.TheConstants.{SUCCESSOR, SUCCESSOR_GIVES}
use Rattle.book_tests.proofs.RunLaws.{may-try}
use Rattle.book_tests.proofs.tests.the_successor_is_a_function_with_a_value.Goals as goal

pub verdict-requires-clause-right : goal.verdict-requires-clause-right
verdict-requires-clause-right g c = (conclusions_at successor_statement [], may-try earlier successor_statement SUCCESSOR.now SUCCESSOR_GIVES.now refl refl refl c.successor_is_derived.ensures)
