use Rattle.std.proofs.Common.{refl}
use Rattle.recipes.proofs.Soundness.{derives-sound}
use Rattle.pattern_sides.specs.Follows.{follows}
use Rattle.pattern_sides.proofs.SideLaws.{follows-sound}
use Rattle.kan_tests.specs.Fillings.{contracted_statement, moved_statement, raised_statement, before_last, earlier}
use Rattle.kan_tests.specs.declared.contr_variable.TheConstants.{CONTR_VARIABLE, CONTR_VARIABLE_PREMISES}
use Rattle.kan_tests.specs.declared.pres_numbers.TheConstants.{PRES_NUMBERS, PRES_NUMBERS_PREMISES}
use Rattle.kan_tests.specs.declared.ext_variable.TheConstants.{EXT_VARIABLE, EXT_VARIABLE_PREMISES}
use Rattle.kan_tests.proofs.called_premises_are_derived.Goals as goal

pub returns-clause-contraction : goal.returns-clause-contraction
returns-clause-contraction c = derives-sound follows follows-sound earlier contracted_statement (before_last CONTR_VARIABLE.now) CONTR_VARIABLE_PREMISES.now refl

pub returns-clause-preservation : goal.returns-clause-preservation
returns-clause-preservation c = derives-sound follows follows-sound earlier moved_statement (before_last PRES_NUMBERS.now) PRES_NUMBERS_PREMISES.now refl

pub returns-clause-extension : goal.returns-clause-extension
returns-clause-extension c = derives-sound follows follows-sound earlier raised_statement (before_last EXT_VARIABLE.now) EXT_VARIABLE_PREMISES.now refl
