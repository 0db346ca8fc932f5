use Rattle.std.proofs.Common.{[], ◌∷◌, refl}
use Rattle.recipes.proofs.Soundness.{derives-sound}
use Rattle.pattern_sides.specs.Follows.{follows}
use Rattle.pattern_sides.proofs.SideLaws.{follows-sound}
use Rattle.kan_fill.specs.Statements.{fill_statement, pres_statement}
use Rattle.kan_fill.specs.declared.pres.TheConstants.{PRES, PRES_GIVES}
use Rattle.kan_fill.proofs.preservation_is_derived.Goals as goal

pub returns : goal.returns
returns c = derives-sound follows follows-sound (fill_statement ∷ []) pres_statement PRES.now PRES_GIVES.now refl
