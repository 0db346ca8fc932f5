use Rattle.std.proofs.Common.{refl}
use Rattle.recipes.proofs.Soundness.{derives-sound}
use Rattle.pattern_sides.specs.Follows.{follows}
use Rattle.pattern_sides.proofs.SideLaws.{follows-sound}
use Rattle.kan_fill.specs.Statements.{kan_statements}
use Rattle.kan_universe.specs.Lines.{line_statement}
use Rattle.kan_universe.specs.declared.line.TheConstants.{LINE, LINE_GIVES}
use Rattle.kan_universe.proofs.line_is_derived.Goals as goal

pub returns : goal.returns
returns c = derives-sound follows follows-sound kan_statements line_statement LINE.now LINE_GIVES.now refl
