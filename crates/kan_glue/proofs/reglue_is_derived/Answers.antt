use Rattle.std.proofs.Common.{refl}
use Rattle.recipes.proofs.Soundness.{derives-sound}
use Rattle.pattern_sides.specs.Follows.{follows}
use Rattle.pattern_sides.proofs.SideLaws.{follows-sound}
use Rattle.kan_glue.specs.Steps.{reglue_statement}
use Rattle.kan_fill.specs.Statements.{kan_statements}
use Rattle.kan_glue.specs.declared.reglue.TheConstants.{REGLUE, REGLUE_GIVES}
use Rattle.kan_glue.proofs.reglue_is_derived.Goals as goal

pub returns : goal.returns
returns c = derives-sound follows follows-sound kan_statements reglue_statement REGLUE.now REGLUE_GIVES.now refl
