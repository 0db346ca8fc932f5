use Rattle.std.proofs.Common.{refl}
use Rattle.recipes.proofs.Soundness.{derives-sound}
use Rattle.pattern_sides.specs.Follows.{follows}
use Rattle.pattern_sides.proofs.SideLaws.{follows-sound}
use Rattle.kan_universe.specs.Equivalences.{eqv_w_statement}
use Rattle.kan_universe.specs.Parts.{lines}
use Rattle.kan_universe.specs.declared.eqv_w.TheConstants.{EQV_W, EQV_W_GIVES}
use Rattle.kan_universe.proofs.eqv_w_is_derived.Goals as goal

pub returns : goal.returns
returns c = derives-sound follows follows-sound lines eqv_w_statement EQV_W.now EQV_W_GIVES.now refl
