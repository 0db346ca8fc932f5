use Rattle.std.proofs.Common.{[], refl}
use Rattle.recipes.proofs.Soundness.{derives-sound}
use Rattle.pattern_sides.specs.Follows.{follows}
use Rattle.pattern_sides.proofs.SideLaws.{follows-sound}
use Rattle.structural_rules.specs.Statements.{lam_cong_statement, pair_cong_statement, plam_cong_statement, sys_cong_statement, glue_cong_statement}
use Rattle.structural_rules.specs.declared.lam_cong.TheConstants.{LAM_CONG, LAM_CONG_GIVES}
use Rattle.structural_rules.specs.declared.pair_cong.TheConstants.{PAIR_CONG, PAIR_CONG_GIVES}
use Rattle.structural_rules.specs.declared.plam_cong.TheConstants.{PLAM_CONG, PLAM_CONG_GIVES}
use Rattle.structural_rules.specs.declared.sys_cong.TheConstants.{SYS_CONG, SYS_CONG_GIVES}
use Rattle.structural_rules.specs.declared.glue_cong.TheConstants.{GLUE_CONG, GLUE_CONG_GIVES}
use Rattle.structural_rules.proofs.congruences_are_derived.Goals as goal

pub returns : goal.returns
returns c = record {
  lam = derives-sound follows follows-sound [] lam_cong_statement LAM_CONG.now LAM_CONG_GIVES.now refl;
  pair = derives-sound follows follows-sound [] pair_cong_statement PAIR_CONG.now PAIR_CONG_GIVES.now refl;
  plam = derives-sound follows follows-sound [] plam_cong_statement PLAM_CONG.now PLAM_CONG_GIVES.now refl;
  sys = derives-sound follows follows-sound [] sys_cong_statement SYS_CONG.now SYS_CONG_GIVES.now refl;
  glue = derives-sound follows follows-sound [] glue_cong_statement GLUE_CONG.now GLUE_CONG_GIVES.now refl;
}
