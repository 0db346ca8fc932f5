use Rattle.std.proofs.Common.{[], refl}
use Rattle.recipes.proofs.Soundness.{derives-sound}
use Rattle.pattern_sides.specs.Follows.{follows}
use Rattle.pattern_sides.proofs.SideLaws.{follows-sound}
use Rattle.inversion_rules.specs.Statements.{open_binder_u_statement, open_pathp_u_statement, open_glue_type_u_statement}
use Rattle.inversion_rules.specs.declared.open_binder_u.TheConstants.{OPEN_BINDER_U, OPEN_BINDER_U_GIVES}
use Rattle.inversion_rules.specs.declared.open_pathp_u.TheConstants.{OPEN_PATHP_U, OPEN_PATHP_U_GIVES}
use Rattle.inversion_rules.specs.declared.open_glue_type_u.TheConstants.{OPEN_GLUE_TYPE_U, OPEN_GLUE_TYPE_U_GIVES}
use Rattle.inversion_rules.proofs.types_in_the_universe_are_opened.Goals as goal

pub returns : goal.returns
returns c = record {
  open_binder_u = derives-sound follows follows-sound [] open_binder_u_statement OPEN_BINDER_U.now OPEN_BINDER_U_GIVES.now refl;
  open_pathp_u = derives-sound follows follows-sound [] open_pathp_u_statement OPEN_PATHP_U.now OPEN_PATHP_U_GIVES.now refl;
  open_glue_type_u = derives-sound follows follows-sound [] open_glue_type_u_statement OPEN_GLUE_TYPE_U.now OPEN_GLUE_TYPE_U_GIVES.now refl;
}
