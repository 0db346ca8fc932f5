use Rattle.std.proofs.Common.{refl}
use Rattle.recipes.specs.Checks.{no_sides}
use Rattle.recipes.proofs.Soundness.{derives-sound}
use Rattle.book_tests.specs.Stated.{constant_statement, earlier}
use Rattle.book_tests.specs.declared.constant.TheConstants.{CONSTANT, CONSTANT_GIVES}
use Rattle.book_tests.proofs.RunLaws.{no-sides-sound}
use Rattle.book_tests.proofs.constant_is_derived.Goals as goal

pub returns : goal.returns
returns c = derives-sound no_sides no-sides-sound earlier constant_statement CONSTANT.now CONSTANT_GIVES.now refl
