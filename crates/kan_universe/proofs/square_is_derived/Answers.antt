use Rattle.std.proofs.Common.{refl}
use Rattle.recipes.proofs.Soundness.{derives-sound}
use Rattle.pattern_sides.specs.Follows.{follows}
use Rattle.pattern_sides.proofs.SideLaws.{follows-sound}
use Rattle.kan_fill.specs.Statements.{kan_statements}
use Rattle.kan_universe.specs.Lines.{square_statement}
use Rattle.kan_universe.specs.declared.square.TheConstants.{SQUARE, SQUARE_GIVES}
use Rattle.kan_universe.proofs.square_is_derived.Goals as goal

pub returns : goal.returns
returns c = derives-sound follows follows-sound kan_statements square_statement SQUARE.now SQUARE_GIVES.now refl
