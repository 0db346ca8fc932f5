use Rattle.std.proofs.Common.{refl}
use Rattle.recipes.proofs.Soundness.{derives-sound}
use Rattle.pattern_sides.specs.Follows.{follows}
use Rattle.pattern_sides.proofs.SideLaws.{follows-sound}
use Rattle.kan_universe.specs.Equivalences.{eqv_uv_statement}
use Rattle.kan_universe.specs.Parts.{lines}
use Rattle.kan_universe.specs.declared.eqv_uv.TheConstants.{EQV_UV, EQV_UV_GIVES}
use Rattle.kan_universe.proofs.eqv_uv_is_derived.Goals as goal

pub returns : goal.returns
returns c = derives-sound follows follows-sound lines eqv_uv_statement EQV_UV.now EQV_UV_GIVES.now refl
