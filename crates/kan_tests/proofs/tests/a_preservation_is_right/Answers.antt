use Rattle.std.proofs.Common.{[], refl}
use Rattle.recipes.specs.Derivations.{conclusions_at}
use Rattle.kan_tests.specs.Fillings.{carried_statement, earlier}
use Rattle.kan_tests.specs.declared.pres_numbers.TheConstants.{PRES_NUMBERS, PRES_NUMBERS_GIVES}
use Rattle.book_tests.proofs.RunLaws.{may-try}
use Rattle.kan_tests.proofs.tests.a_preservation_is_right.Goals as goal

pub verdict-requires-clause-right : goal.verdict-requires-clause-right
verdict-requires-clause-right g c = (conclusions_at carried_statement [], may-try earlier carried_statement PRES_NUMBERS.now PRES_NUMBERS_GIVES.now refl refl refl c.preservation_is_derived.ensures)
