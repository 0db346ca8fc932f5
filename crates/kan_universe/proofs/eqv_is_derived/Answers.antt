use Rattle.std.proofs.Common.{refl}
use Rattle.recipes.proofs.Soundness.{derives-sound}
use Rattle.pattern_sides.specs.Follows.{follows}
use Rattle.pattern_sides.proofs.SideLaws.{follows-sound}
use Rattle.kan_universe.specs.Equivalences.{eqv_statement}
use Rattle.kan_universe.specs.Parts.{equivalence_parts}
use Rattle.kan_universe.specs.declared.eqv.TheConstants.{EQV, EQV_GIVES}
use Rattle.kan_universe.proofs.eqv_is_derived.Goals as goal

pub returns : goal.returns
returns c = derives-sound follows follows-sound equivalence_parts eqv_statement EQV.now EQV_GIVES.now refl
