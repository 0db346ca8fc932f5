use Rattle.std.proofs.Common.{refl}
use Rattle.pattern_sides.proofs.side_examples.Goals as goal

pub returns : goal.returns
returns c = record { found = refl; refused = refl }
