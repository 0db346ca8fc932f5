use Rattle.recipes.proofs.Soundness.{derives-sound}
use Rattle.recipes.proofs.test_is_sound.Goals as goal

pub returns : goal.returns
returns c = derives-sound
