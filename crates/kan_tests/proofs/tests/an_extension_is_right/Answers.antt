use Rattle.std.proofs.Common.{[], refl}
use Rattle.recipes.specs.Derivations.{conclusions_at}
use Rattle.kan_tests.specs.Fillings.{lifted_statement, earlier}
use Rattle.kan_tests.specs.declared.ext_variable.TheConstants.{EXT_VARIABLE, EXT_VARIABLE_GIVES}
use Rattle.book_tests.proofs.RunLaws.{may-try}
use Rattle.kan_tests.proofs.tests.an_extension_is_right.Goals as goal

pub verdict-requires-clause-right : goal.verdict-requires-clause-right
verdict-requires-clause-right g c = (conclusions_at lifted_statement [], may-try earlier lifted_statement EXT_VARIABLE.now EXT_VARIABLE_GIVES.now refl refl refl c.extension_is_derived.ensures)
