use Rattle.std.proofs.Common.{refl}
use Rattle.recipes.specs.Checks.{no_sides}
use Rattle.recipes.proofs.Soundness.{derives-sound}
use Rattle.book_tests.specs.Stated.{two_statement, earlier}
use Rattle.book_tests.specs.declared.two.TheConstants.{TWO, TWO_GIVES}
use Rattle.book_tests.proofs.RunLaws.{no-sides-sound}
use Rattle.book_tests.proofs.two_is_derived.Goals as goal

pub returns : goal.returns
returns c = derives-sound no_sides no-sides-sound earlier two_statement TWO.now TWO_GIVES.now refl
