use Rattle.std.proofs.Common.{refl}
use Rattle.recipes.specs.Checks.{no_sides}
use Rattle.recipes.proofs.Soundness.{derives-sound}
use Rattle.book_tests.specs.Stated.{twice_statement, earlier}
use Rattle.book_tests.specs.declared.twice.TheConstants.{TWICE, TWICE_GIVES}
use Rattle.book_tests.proofs.RunLaws.{no-sides-sound}
use Rattle.book_tests.proofs.twice_is_derived.Goals as goal

pub returns : goal.returns
returns c = derives-sound no_sides no-sides-sound earlier twice_statement TWICE.now TWICE_GIVES.now refl
