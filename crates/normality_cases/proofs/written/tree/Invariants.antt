use Rattle.std.proofs.Common.{length}
use Rattle.normality_cases.proofs.written.tree.Given as goal

abbrev pub decreases-loop-word-2 : goal.decreases-loop-word-2
decreases-loop-word-2 l = length l.words.items
