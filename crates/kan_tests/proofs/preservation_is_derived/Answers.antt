use Rattle.std.proofs.Common.{refl}
use Rattle.recipes.proofs.Soundness.{derives-sound}
use Rattle.pattern_sides.specs.Follows.{follows}
use Rattle.pattern_sides.proofs.SideLaws.{follows-sound}
use Rattle.kan_tests.specs.Fillings.{carried_statement, earlier}
use Rattle.kan_tests.specs.declared.pres_numbers.TheConstants.{PRES_NUMBERS, PRES_NUMBERS_GIVES}
use Rattle.kan_tests.proofs.preservation_is_derived.Goals as goal

pub returns : goal.returns
returns c = derives-sound follows follows-sound earlier carried_statement PRES_NUMBERS.now PRES_NUMBERS_GIVES.now refl
