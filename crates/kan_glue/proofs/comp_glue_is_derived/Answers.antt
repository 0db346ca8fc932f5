use Rattle.std.proofs.Common.{refl}
use Rattle.recipes.proofs.Soundness.{derives-sound}
use Rattle.pattern_sides.specs.Follows.{follows}
use Rattle.pattern_sides.proofs.SideLaws.{follows-sound}
use Rattle.kan_glue.specs.Parts.{glue_parts}
use Rattle.kan_calls.specs.Unfoldings.{unfold_statement}
use Rattle.theory.specs.declared.rule.CompRule.TheVariants.{CompGlue}
use Rattle.theory.specs.declared.rule.RuleName.TheVariants.{Composition}
use Rattle.kan_glue.specs.declared.comp_glue.TheConstants.{COMP_GLUE, COMP_GLUE_GIVES}
use Rattle.kan_glue.proofs.comp_glue_is_derived.Goals as goal

pub returns : goal.returns
returns c = derives-sound follows follows-sound glue_parts (unfold_statement (Composition CompGlue)) COMP_GLUE.now COMP_GLUE_GIVES.now refl
