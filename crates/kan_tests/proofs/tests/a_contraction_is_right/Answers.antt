use Rattle.std.proofs.Common.{[], refl}
use Rattle.recipes.specs.Derivations.{conclusions_at}
use Rattle.kan_tests.specs.Fillings.{extended_statement, earlier}
use Rattle.kan_tests.specs.declared.contr_variable.TheConstants.{CONTR_VARIABLE, CONTR_VARIABLE_GIVES}
use Rattle.book_tests.proofs.RunLaws.{may-try}
use Rattle.kan_tests.proofs.tests.a_contraction_is_right.Goals as goal

pub verdict-requires-clause-right : goal.verdict-requires-clause-right
verdict-requires-clause-right g c = (conclusions_at extended_statement [], may-try earlier extended_statement CONTR_VARIABLE.now CONTR_VARIABLE_GIVES.now refl refl refl c.contraction_is_derived.ensures)
