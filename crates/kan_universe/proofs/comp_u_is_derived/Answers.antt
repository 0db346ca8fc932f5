use Rattle.std.proofs.Common.{refl}
use Rattle.recipes.proofs.Soundness.{derives-sound}
use Rattle.pattern_sides.specs.Follows.{follows}
use Rattle.pattern_sides.proofs.SideLaws.{follows-sound}
use Rattle.kan_calls.specs.Unfoldings.{unfold_statement}
use Rattle.kan_universe.specs.Parts.{universe_parts}
use Rattle.theory.specs.declared.rule.CompRule.TheVariants.{CompU}
use Rattle.theory.specs.declared.rule.RuleName.TheVariants.{Composition}
use Rattle.kan_universe.specs.declared.comp_u.TheConstants.{COMP_U, COMP_U_GIVES}
use Rattle.kan_universe.proofs.comp_u_is_derived.Goals as goal

pub returns : goal.returns
returns c = derives-sound follows follows-sound universe_parts (unfold_statement (Composition CompU)) COMP_U.now COMP_U_GIVES.now refl
