use Rattle.std.proofs.Common.{[], refl}
use Rattle.recipes.proofs.Soundness.{derives-sound}
use Rattle.pattern_sides.specs.Follows.{follows}
use Rattle.pattern_sides.proofs.SideLaws.{follows-sound}
use Rattle.structural_rules.specs.Statements.{lift_var_statement, lift_name_statement, lift_face_statement}
use Rattle.structural_rules.specs.declared.lift_var.TheConstants.{LIFT_VAR, LIFT_VAR_GIVES}
use Rattle.structural_rules.specs.declared.lift_name.TheConstants.{LIFT_NAME, LIFT_NAME_GIVES}
use Rattle.structural_rules.specs.declared.lift_face.TheConstants.{LIFT_FACE, LIFT_FACE_GIVES}
use Rattle.structural_rules.proofs.lifts_are_derived.Goals as goal

pub returns : goal.returns
returns c = record {
  variable = derives-sound follows follows-sound [] lift_var_statement LIFT_VAR.now LIFT_VAR_GIVES.now refl;
  name = derives-sound follows follows-sound [] lift_name_statement LIFT_NAME.now LIFT_NAME_GIVES.now refl;
  face = derives-sound follows follows-sound [] lift_face_statement LIFT_FACE.now LIFT_FACE_GIVES.now refl;
}
