use Rattle.std.proofs.Common.{refl}
use Rattle.recipes.proofs.Soundness.{derives-sound}
use Rattle.pattern_sides.specs.Follows.{follows}
use Rattle.pattern_sides.proofs.SideLaws.{follows-sound}
use Rattle.kan_tests.specs.Fillings.{extended_statement, earlier}
use Rattle.kan_tests.specs.declared.contr_variable.TheConstants.{CONTR_VARIABLE, CONTR_VARIABLE_GIVES}
use Rattle.kan_tests.proofs.contraction_is_derived.Goals as goal

pub returns : goal.returns
returns c = derives-sound follows follows-sound earlier extended_statement CONTR_VARIABLE.now CONTR_VARIABLE_GIVES.now refl
