use Rattle.std.proofs.Common.{[], refl}
use Rattle.recipes.specs.Derivations.{conclusions_at}
use Rattle.kan_tests.specs.Fillings.{identity_statement, earlier}
use Rattle.kan_tests.specs.declared.ext_numbers.TheConstants.{EXT_NUMBERS, EXT_NUMBERS_GIVES}
use Rattle.book_tests.proofs.RunLaws.{may-try}
use Rattle.kan_tests.proofs.tests.an_extension_along_the_identity_is_right.Goals as goal

pub verdict-requires-clause-right : goal.verdict-requires-clause-right
verdict-requires-clause-right g c = (conclusions_at identity_statement [], may-try earlier identity_statement EXT_NUMBERS.now EXT_NUMBERS_GIVES.now refl refl refl c.identity_is_equivalence.ensures)
