use Rattle.std.proofs.Common.{refl}
use Rattle.recipes.proofs.Soundness.{derives-sound}
use Rattle.pattern_sides.specs.Follows.{follows}
use Rattle.pattern_sides.proofs.SideLaws.{follows-sound}
use Rattle.kan_glue.specs.Steps.{extend_statement}
use Rattle.kan_fill.specs.Statements.{kan_statements}
use Rattle.kan_glue.specs.declared.extend.TheConstants.{EXTEND, EXTEND_GIVES}
use Rattle.kan_glue.proofs.extend_is_derived.Goals as goal

pub returns : goal.returns
returns c = derives-sound follows follows-sound kan_statements extend_statement EXTEND.now EXTEND_GIVES.now refl
