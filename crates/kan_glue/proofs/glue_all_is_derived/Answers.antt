use Rattle.std.proofs.Common.{refl}
use Rattle.recipes.proofs.Soundness.{derives-sound}
use Rattle.pattern_sides.specs.Follows.{follows}
use Rattle.pattern_sides.proofs.SideLaws.{follows-sound}
use Rattle.kan_glue.specs.Steps.{glue_all_statement}
use Rattle.kan_fill.specs.Statements.{kan_statements}
use Rattle.kan_glue.specs.declared.glue_all.TheConstants.{GLUE_ALL, GLUE_ALL_GIVES}
use Rattle.kan_glue.proofs.glue_all_is_derived.Goals as goal

pub returns : goal.returns
returns c = derives-sound follows follows-sound kan_statements glue_all_statement GLUE_ALL.now GLUE_ALL_GIVES.now refl
