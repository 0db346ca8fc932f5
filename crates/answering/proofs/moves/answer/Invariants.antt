use Rattle.std.proofs.Common.{◌-◌, ◌≤◌}
use Rattle.answering.proofs.moves.answer.Given as goal

abbrev pub invariant-loop-run : goal.invariant-loop-run
invariant-loop-run l = l.run.moves ≤ l.most

abbrev pub decreases-loop-run : goal.decreases-loop-run
decreases-loop-run l = l.most - l.run.moves
