use Rattle.std.proofs.Common.{[], refl}
use Rattle.recipes.proofs.Soundness.{derives-sound}
use Rattle.pattern_sides.specs.Follows.{follows}
use Rattle.pattern_sides.proofs.SideLaws.{follows-sound}
use Rattle.typing_rules.specs.Types.{universe_type_statement, numbers_type_statement, small_type_statement, pi_type_statement, pi_small_statement, sig_type_statement, sig_small_statement, path_type_statement, path_small_statement, motive_step_statement, path_in_universe_statement, family_of_numbers_statement}
use Rattle.typing_rules.specs.declared.universe_type.TheConstants.{UNIVERSE_TYPE, UNIVERSE_TYPE_GIVES}
use Rattle.typing_rules.specs.declared.numbers_type.TheConstants.{NUMBERS_TYPE, NUMBERS_TYPE_GIVES}
use Rattle.typing_rules.specs.declared.small_type.TheConstants.{SMALL_TYPE, SMALL_TYPE_GIVES}
use Rattle.typing_rules.specs.declared.pi_type.TheConstants.{PI_TYPE, PI_TYPE_GIVES}
use Rattle.typing_rules.specs.declared.pi_small.TheConstants.{PI_SMALL, PI_SMALL_GIVES}
use Rattle.typing_rules.specs.declared.sig_type.TheConstants.{SIG_TYPE, SIG_TYPE_GIVES}
use Rattle.typing_rules.specs.declared.sig_small.TheConstants.{SIG_SMALL, SIG_SMALL_GIVES}
use Rattle.typing_rules.specs.declared.path_type.TheConstants.{PATH_TYPE, PATH_TYPE_GIVES}
use Rattle.typing_rules.specs.declared.path_small.TheConstants.{PATH_SMALL, PATH_SMALL_GIVES}
use Rattle.typing_rules.specs.declared.motive_step.TheConstants.{MOTIVE_STEP, MOTIVE_STEP_GIVES}
use Rattle.typing_rules.specs.declared.path_in_universe.TheConstants.{PATH_IN_UNIVERSE, PATH_IN_UNIVERSE_GIVES}
use Rattle.typing_rules.specs.declared.family_of_numbers.TheConstants.{FAMILY_OF_NUMBERS, FAMILY_OF_NUMBERS_GIVES}
use Rattle.typing_rules.proofs.types_are_derived.Goals as goal

pub returns : goal.returns
returns c = record {
  universe_type = derives-sound follows follows-sound [] universe_type_statement UNIVERSE_TYPE.now UNIVERSE_TYPE_GIVES.now refl;
  numbers_type = derives-sound follows follows-sound [] numbers_type_statement NUMBERS_TYPE.now NUMBERS_TYPE_GIVES.now refl;
  small_type = derives-sound follows follows-sound [] small_type_statement SMALL_TYPE.now SMALL_TYPE_GIVES.now refl;
  pi_type = derives-sound follows follows-sound [] pi_type_statement PI_TYPE.now PI_TYPE_GIVES.now refl;
  pi_small = derives-sound follows follows-sound [] pi_small_statement PI_SMALL.now PI_SMALL_GIVES.now refl;
  sig_type = derives-sound follows follows-sound [] sig_type_statement SIG_TYPE.now SIG_TYPE_GIVES.now refl;
  sig_small = derives-sound follows follows-sound [] sig_small_statement SIG_SMALL.now SIG_SMALL_GIVES.now refl;
  path_type = derives-sound follows follows-sound [] path_type_statement PATH_TYPE.now PATH_TYPE_GIVES.now refl;
  path_small = derives-sound follows follows-sound [] path_small_statement PATH_SMALL.now PATH_SMALL_GIVES.now refl;
  motive_step = derives-sound follows follows-sound [] motive_step_statement MOTIVE_STEP.now MOTIVE_STEP_GIVES.now refl;
  path_in_universe = derives-sound follows follows-sound [] path_in_universe_statement PATH_IN_UNIVERSE.now PATH_IN_UNIVERSE_GIVES.now refl;
  family_of_numbers = derives-sound follows follows-sound [] family_of_numbers_statement FAMILY_OF_NUMBERS.now FAMILY_OF_NUMBERS_GIVES.now refl;
}
