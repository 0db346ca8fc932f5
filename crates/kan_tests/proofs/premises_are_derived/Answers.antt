use Rattle.std.proofs.Common.{refl}
use Rattle.recipes.proofs.Soundness.{derives-sound}
use Rattle.pattern_sides.specs.Follows.{follows}
use Rattle.pattern_sides.proofs.SideLaws.{follows-sound}
use Rattle.kan_tests.specs.Fillings.{premises_statement, earlier}
use Rattle.kan_tests.specs.declared.fill_premises.TheConstants.{FILL_PREMISES, FILL_PREMISES_GIVES}
use Rattle.kan_tests.proofs.premises_are_derived.Goals as goal

pub returns : goal.returns
returns c = derives-sound follows follows-sound earlier premises_statement FILL_PREMISES.now FILL_PREMISES_GIVES.now refl
