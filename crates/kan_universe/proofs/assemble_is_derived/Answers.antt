use Rattle.std.proofs.Common.{refl}
use Rattle.recipes.proofs.Soundness.{derives-sound}
use Rattle.pattern_sides.specs.Follows.{follows}
use Rattle.pattern_sides.proofs.SideLaws.{follows-sound}
use Rattle.kan_universe.specs.Equivalences.{assemble_statement}
use Rattle.kan_universe.specs.Parts.{lines}
use Rattle.kan_universe.specs.declared.assemble.TheConstants.{ASSEMBLE, ASSEMBLE_GIVES}
use Rattle.kan_universe.proofs.assemble_is_derived.Goals as goal

pub returns : goal.returns
returns c = derives-sound follows follows-sound lines assemble_statement ASSEMBLE.now ASSEMBLE_GIVES.now refl
