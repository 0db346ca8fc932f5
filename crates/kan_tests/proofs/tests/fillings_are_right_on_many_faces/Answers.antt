use Rattle.std.proofs.Common.{[], refl}
use Rattle.recipes.specs.Derivations.{conclusions_at}
use Rattle.kan_tests.specs.Fillings.{faces_statement, earlier}
use Rattle.kan_tests.specs.declared.fill_faces.TheConstants.{FILL_FACES, FILL_FACES_GIVES}
use Rattle.book_tests.proofs.RunLaws.{may-try}
use Rattle.kan_tests.proofs.tests.fillings_are_right_on_many_faces.Goals as goal

pub verdict-requires-clause-right : goal.verdict-requires-clause-right
verdict-requires-clause-right g c = (conclusions_at faces_statement [], may-try earlier faces_statement FILL_FACES.now FILL_FACES_GIVES.now refl refl refl c.fillings_are_derived.ensures.faces)
