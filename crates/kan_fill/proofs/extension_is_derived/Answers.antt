use Rattle.std.proofs.Common.{[], ◌∷◌, refl}
use Rattle.recipes.proofs.Soundness.{derives-sound}
use Rattle.pattern_sides.specs.Follows.{follows}
use Rattle.pattern_sides.proofs.SideLaws.{follows-sound}
use Rattle.kan_fill.specs.Statements.{contr_statement, ext_statement}
use Rattle.kan_fill.specs.declared.ext.TheConstants.{EXT, EXT_GIVES}
use Rattle.kan_fill.proofs.extension_is_derived.Goals as goal

pub returns : goal.returns
returns c = derives-sound follows follows-sound (contr_statement ∷ []) ext_statement EXT.now EXT_GIVES.now refl
