use Rattle.std.proofs.Common.{refl}
use Rattle.recipes.specs.Checks.{no_sides}
use Rattle.recipes.proofs.Soundness.{derives-sound}
use Rattle.book_tests.specs.Stated.{successor_statement, earlier}
use Rattle.book_tests.specs.declared.successor.TheConstants.{SUCCESSOR, SUCCESSOR_GIVES}
use Rattle.book_tests.proofs.RunLaws.{no-sides-sound}
use Rattle.book_tests.proofs.successor_is_derived.Goals as goal

pub returns : goal.returns
returns c = derives-sound no_sides no-sides-sound earlier successor_statement SUCCESSOR.now SUCCESSOR_GIVES.now refl
