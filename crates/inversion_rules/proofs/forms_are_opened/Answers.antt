use Rattle.std.proofs.Common.{[], refl}
use Rattle.recipes.proofs.Soundness.{derives-sound}
use Rattle.pattern_sides.specs.Follows.{follows}
use Rattle.pattern_sides.proofs.SideLaws.{follows-sound}
use Rattle.inversion_rules.specs.Statements.{open_binder_statement, open_pathp_statement, open_glue_type_statement, open_lam_statement, open_pair_statement, open_plam_statement, open_glue_statement}
use Rattle.inversion_rules.specs.declared.open_binder.TheConstants.{OPEN_BINDER, OPEN_BINDER_GIVES}
use Rattle.inversion_rules.specs.declared.open_pathp.TheConstants.{OPEN_PATHP, OPEN_PATHP_GIVES}
use Rattle.inversion_rules.specs.declared.open_glue_type.TheConstants.{OPEN_GLUE_TYPE, OPEN_GLUE_TYPE_GIVES}
use Rattle.inversion_rules.specs.declared.open_lam.TheConstants.{OPEN_LAM, OPEN_LAM_GIVES}
use Rattle.inversion_rules.specs.declared.open_pair.TheConstants.{OPEN_PAIR, OPEN_PAIR_GIVES}
use Rattle.inversion_rules.specs.declared.open_plam.TheConstants.{OPEN_PLAM, OPEN_PLAM_GIVES}
use Rattle.inversion_rules.specs.declared.open_glue.TheConstants.{OPEN_GLUE, OPEN_GLUE_GIVES}
use Rattle.inversion_rules.proofs.forms_are_opened.Goals as goal

pub returns : goal.returns
returns c = record {
  open_binder = derives-sound follows follows-sound [] open_binder_statement OPEN_BINDER.now OPEN_BINDER_GIVES.now refl;
  open_pathp = derives-sound follows follows-sound [] open_pathp_statement OPEN_PATHP.now OPEN_PATHP_GIVES.now refl;
  open_glue_type = derives-sound follows follows-sound [] open_glue_type_statement OPEN_GLUE_TYPE.now OPEN_GLUE_TYPE_GIVES.now refl;
  open_lam = derives-sound follows follows-sound [] open_lam_statement OPEN_LAM.now OPEN_LAM_GIVES.now refl;
  open_pair = derives-sound follows follows-sound [] open_pair_statement OPEN_PAIR.now OPEN_PAIR_GIVES.now refl;
  open_plam = derives-sound follows follows-sound [] open_plam_statement OPEN_PLAM.now OPEN_PLAM_GIVES.now refl;
  open_glue = derives-sound follows follows-sound [] open_glue_statement OPEN_GLUE.now OPEN_GLUE_GIVES.now refl;
}
