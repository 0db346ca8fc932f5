use Rattle.std.proofs.Common.{[], refl}
use Rattle.recipes.proofs.Soundness.{derives-sound}
use Rattle.pattern_sides.specs.Follows.{follows}
use Rattle.pattern_sides.proofs.SideLaws.{follows-sound}
use Rattle.structural_rules.specs.Statements.{cover_ty_statement, cover_tm_statement}
use Rattle.structural_rules.specs.declared.cover_ty.TheConstants.{COVER_TY, COVER_TY_GIVES}
use Rattle.structural_rules.specs.declared.cover_tm.TheConstants.{COVER_TM, COVER_TM_GIVES}
use Rattle.structural_rules.proofs.covers_are_derived.Goals as goal

pub returns : goal.returns
returns c = record {
  types = derives-sound follows follows-sound [] cover_ty_statement COVER_TY.now COVER_TY_GIVES.now refl;
  terms = derives-sound follows follows-sound [] cover_tm_statement COVER_TM.now COVER_TM_GIVES.now refl;
}
