use Rattle.std.proofs.Common.{◌+◌}
use Rattle.literal_types.specs.Openings.{weight}
use Rattle.evaluate.specs.Waiting.{total}
use Rattle.evaluate.proofs.look.located.Given as goal

abbrev pub decreases-loop-waiting : goal.decreases-loop-waiting
decreases-loop-waiting l = weight l.goal.susp.typing + total l.waiting.items
