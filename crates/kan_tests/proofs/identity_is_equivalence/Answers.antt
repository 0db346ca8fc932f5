use Rattle.std.proofs.Common.{refl}
use Rattle.recipes.proofs.Soundness.{derives-sound}
use Rattle.pattern_sides.specs.Follows.{follows}
use Rattle.pattern_sides.proofs.SideLaws.{follows-sound}
use Rattle.kan_tests.specs.Fillings.{identity_statement, earlier}
use Rattle.kan_tests.specs.declared.ext_numbers.TheConstants.{EXT_NUMBERS, EXT_NUMBERS_GIVES}
use Rattle.kan_tests.proofs.identity_is_equivalence.Goals as goal

pub returns : goal.returns
returns c = derives-sound follows follows-sound earlier identity_statement EXT_NUMBERS.now EXT_NUMBERS_GIVES.now refl
