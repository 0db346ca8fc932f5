use Rattle.std.proofs.Common.{[], refl}
use Rattle.recipes.proofs.Soundness.{derives-sound}
use Rattle.pattern_sides.specs.Follows.{follows}
use Rattle.pattern_sides.proofs.SideLaws.{follows-sound}
use Rattle.structural_rules.specs.Statements.{restrict_ty0_statement, restrict_ty1_statement, restrict_tm0_statement, restrict_tm1_statement}
use Rattle.structural_rules.specs.declared.restrict_ty0.TheConstants.{RESTRICT_TY0, RESTRICT_TY0_GIVES}
use Rattle.structural_rules.specs.declared.restrict_ty1.TheConstants.{RESTRICT_TY1, RESTRICT_TY1_GIVES}
use Rattle.structural_rules.specs.declared.restrict_tm0.TheConstants.{RESTRICT_TM0, RESTRICT_TM0_GIVES}
use Rattle.structural_rules.specs.declared.restrict_tm1.TheConstants.{RESTRICT_TM1, RESTRICT_TM1_GIVES}
use Rattle.structural_rules.proofs.restrictions_are_derived.Goals as goal

pub returns : goal.returns
returns c = record {
  type_at_0 = derives-sound follows follows-sound [] restrict_ty0_statement RESTRICT_TY0.now RESTRICT_TY0_GIVES.now refl;
  type_at_1 = derives-sound follows follows-sound [] restrict_ty1_statement RESTRICT_TY1.now RESTRICT_TY1_GIVES.now refl;
  term_at_0 = derives-sound follows follows-sound [] restrict_tm0_statement RESTRICT_TM0.now RESTRICT_TM0_GIVES.now refl;
  term_at_1 = derives-sound follows follows-sound [] restrict_tm1_statement RESTRICT_TM1.now RESTRICT_TM1_GIVES.now refl;
}
