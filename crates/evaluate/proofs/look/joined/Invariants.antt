use Rattle.std.proofs.Common.{length}
use Rattle.evaluate.proofs.look.joined.Given as goal

abbrev pub decreases-loop-next : goal.decreases-loop-next
decreases-loop-next l = length l.waiting.items
