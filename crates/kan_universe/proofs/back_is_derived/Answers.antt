use Rattle.std.proofs.Common.{refl}
use Rattle.recipes.proofs.Soundness.{derives-sound}
use Rattle.pattern_sides.specs.Follows.{follows}
use Rattle.pattern_sides.proofs.SideLaws.{follows-sound}
use Rattle.kan_fill.specs.Statements.{kan_statements}
use Rattle.kan_universe.specs.Lines.{back_statement}
use Rattle.kan_universe.specs.declared.back.TheConstants.{BACK, BACK_GIVES}
use Rattle.kan_universe.proofs.back_is_derived.Goals as goal

pub returns : goal.returns
returns c = derives-sound follows follows-sound kan_statements back_statement BACK.now BACK_GIVES.now refl
