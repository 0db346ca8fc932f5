use Rattle.std.proofs.Common.{refl}
use Rattle.recipes.proofs.Soundness.{derives-sound}
use Rattle.pattern_sides.specs.Follows.{follows}
use Rattle.pattern_sides.proofs.SideLaws.{follows-sound}
use Rattle.kan_universe.specs.Equivalences.{eqv_n_statement}
use Rattle.kan_universe.specs.Parts.{lines}
use Rattle.kan_universe.specs.declared.eqv_n.TheConstants.{EQV_N, EQV_N_GIVES}
use Rattle.kan_universe.proofs.eqv_n_is_derived.Goals as goal

pub returns : goal.returns
returns c = derives-sound follows follows-sound lines eqv_n_statement EQV_N.now EQV_N_GIVES.now refl
