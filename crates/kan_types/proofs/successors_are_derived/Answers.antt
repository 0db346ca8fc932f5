use Rattle.std.proofs.Common.{refl}
use Rattle.theory.specs.declared.rule.RuleName.TheVariants.{Composition}
use Rattle.theory.specs.declared.rule.CompRule.TheVariants.{CompSuc}
use Rattle.recipes.proofs.Soundness.{derives-sound}
use Rattle.pattern_sides.specs.Follows.{follows}
use Rattle.pattern_sides.proofs.SideLaws.{follows-sound}
use Rattle.kan_fill.specs.Statements.{kan_statements}
use Rattle.kan_calls.specs.Unfoldings.{unfold_statement}
use Rattle.kan_types.specs.declared.comp_suc.TheConstants.{COMP_SUC, COMP_SUC_GIVES}
use Rattle.kan_types.proofs.successors_are_derived.Goals as goal

pub returns : goal.returns
returns c = derives-sound follows follows-sound kan_statements (unfold_statement (Composition CompSuc)) COMP_SUC.now COMP_SUC_GIVES.now refl
