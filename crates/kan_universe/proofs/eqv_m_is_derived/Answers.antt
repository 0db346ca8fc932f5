use Rattle.std.proofs.Common.{refl}
use Rattle.recipes.proofs.Soundness.{derives-sound}
use Rattle.pattern_sides.specs.Follows.{follows}
use Rattle.pattern_sides.proofs.SideLaws.{follows-sound}
use Rattle.kan_universe.specs.Equivalences.{eqv_m_statement}
use Rattle.kan_universe.specs.Parts.{lines}
use Rattle.kan_universe.specs.declared.eqv_m.TheConstants.{EQV_M, EQV_M_GIVES}
use Rattle.kan_universe.proofs.eqv_m_is_derived.Goals as goal

pub returns : goal.returns
returns c = derives-sound follows follows-sound lines eqv_m_statement EQV_M.now EQV_M_GIVES.now refl
