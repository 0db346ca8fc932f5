use Rattle.pattern_sides.proofs.SideLaws.{follows-sound}
use Rattle.pattern_sides.proofs.side_test_is_sound.Goals as goal

pub returns : goal.returns
returns c = follows-sound
