use Rattle.std.proofs.Common.{refl}
use Rattle.recipes.proofs.Soundness.{derives-sound}
use Rattle.pattern_sides.specs.Follows.{follows}
use Rattle.pattern_sides.proofs.SideLaws.{follows-sound}
use Rattle.kan_glue.specs.Steps.{glue_base_statement}
use Rattle.kan_fill.specs.Statements.{kan_statements}
use Rattle.kan_glue.specs.declared.glue_base.TheConstants.{GLUE_BASE, GLUE_BASE_GIVES}
use Rattle.kan_glue.proofs.glue_base_is_derived.Goals as goal

pub returns : goal.returns
returns c = derives-sound follows follows-sound kan_statements glue_base_statement GLUE_BASE.now GLUE_BASE_GIVES.now refl
