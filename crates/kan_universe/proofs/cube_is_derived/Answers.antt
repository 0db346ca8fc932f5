use Rattle.std.proofs.Common.{refl}
use Rattle.recipes.proofs.Soundness.{derives-sound}
use Rattle.pattern_sides.specs.Follows.{follows}
use Rattle.pattern_sides.proofs.SideLaws.{follows-sound}
use Rattle.kan_fill.specs.Statements.{kan_statements}
use Rattle.kan_universe.specs.Lines.{cube_statement}
use Rattle.kan_universe.specs.declared.cube.TheConstants.{CUBE, CUBE_GIVES}
use Rattle.kan_universe.proofs.cube_is_derived.Goals as goal

pub returns : goal.returns
returns c = derives-sound follows follows-sound kan_statements cube_statement CUBE.now CUBE_GIVES.now refl
