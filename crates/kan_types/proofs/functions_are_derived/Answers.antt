use Rattle.std.proofs.Common.{refl}
use Rattle.theory.specs.declared.rule.RuleName.TheVariants.{Composition}
use Rattle.theory.specs.declared.rule.CompRule.TheVariants.{CompPi}
use Rattle.recipes.proofs.Soundness.{derives-sound}
use Rattle.pattern_sides.specs.Follows.{follows}
use Rattle.pattern_sides.proofs.SideLaws.{follows-sound}
use Rattle.kan_fill.specs.Statements.{kan_statements}
use Rattle.kan_calls.specs.Unfoldings.{unfold_statement}
use Rattle.kan_types.specs.declared.comp_pi.TheConstants.{COMP_PI, COMP_PI_GIVES}
use Rattle.kan_types.proofs.functions_are_derived.Goals as goal

pub returns : goal.returns
returns c = derives-sound follows follows-sound kan_statements (unfold_statement (Composition CompPi)) COMP_PI.now COMP_PI_GIVES.now refl
