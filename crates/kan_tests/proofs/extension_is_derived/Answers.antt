use Rattle.std.proofs.Common.{refl}
use Rattle.recipes.proofs.Soundness.{derives-sound}
use Rattle.pattern_sides.specs.Follows.{follows}
use Rattle.pattern_sides.proofs.SideLaws.{follows-sound}
use Rattle.kan_tests.specs.Fillings.{lifted_statement, earlier}
use Rattle.kan_tests.specs.declared.ext_variable.TheConstants.{EXT_VARIABLE, EXT_VARIABLE_GIVES}
use Rattle.kan_tests.proofs.extension_is_derived.Goals as goal

pub returns : goal.returns
returns c = derives-sound follows follows-sound earlier lifted_statement EXT_VARIABLE.now EXT_VARIABLE_GIVES.now refl
