use Rattle.std.proofs.Common.{refl}
use Rattle.recipes.specs.Checks.{no_sides}
use Rattle.recipes.proofs.Soundness.{derives-sound}
use Rattle.book_tests.specs.Stated.{variables_statement, earlier}
use Rattle.book_tests.specs.declared.variables.TheConstants.{VARIABLES, VARIABLES_GIVES}
use Rattle.book_tests.proofs.RunLaws.{no-sides-sound}
use Rattle.book_tests.proofs.variables_are_derived.Goals as goal

pub returns : goal.returns
returns c = derives-sound no_sides no-sides-sound earlier variables_statement VARIABLES.now VARIABLES_GIVES.now refl
