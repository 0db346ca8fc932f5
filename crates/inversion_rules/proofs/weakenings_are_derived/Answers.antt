use Rattle.std.proofs.Common.{[], refl}
use Rattle.recipes.proofs.Soundness.{derives-sound}
use Rattle.pattern_sides.specs.Follows.{follows}
use Rattle.pattern_sides.proofs.SideLaws.{follows-sound}
use Rattle.inversion_rules.specs.Statements.{up_var_statement, up_name_statement, up_face_statement}
use Rattle.inversion_rules.specs.declared.up_var.TheConstants.{UP_VAR, UP_VAR_GIVES}
use Rattle.inversion_rules.specs.declared.up_name.TheConstants.{UP_NAME, UP_NAME_GIVES}
use Rattle.inversion_rules.specs.declared.up_face.TheConstants.{UP_FACE, UP_FACE_GIVES}
use Rattle.inversion_rules.proofs.weakenings_are_derived.Goals as goal

pub returns : goal.returns
returns c = record {
  up_var = derives-sound follows follows-sound [] up_var_statement UP_VAR.now UP_VAR_GIVES.now refl;
  up_name = derives-sound follows follows-sound [] up_name_statement UP_NAME.now UP_NAME_GIVES.now refl;
  up_face = derives-sound follows follows-sound [] up_face_statement UP_FACE.now UP_FACE_GIVES.now refl;
}
