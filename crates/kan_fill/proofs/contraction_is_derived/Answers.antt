use Rattle.std.proofs.Common.{[], refl}
use Rattle.recipes.proofs.Soundness.{derives-sound}
use Rattle.pattern_sides.specs.Follows.{follows}
use Rattle.pattern_sides.proofs.SideLaws.{follows-sound}
use Rattle.kan_fill.specs.Statements.{contr_statement}
use Rattle.kan_fill.specs.declared.contr.TheConstants.{CONTR, CONTR_GIVES}
use Rattle.kan_fill.proofs.contraction_is_derived.Goals as goal

pub returns : goal.returns
returns c = derives-sound follows follows-sound [] contr_statement CONTR.now CONTR_GIVES.now refl
