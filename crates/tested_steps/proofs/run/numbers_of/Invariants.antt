use Rattle.std.proofs.Common.{◌≡◌, length}
use Rattle.tested_steps.proofs.run.numbers_of.Given as goal

abbrev pub invariant-loop-node : goal.invariant-loop-node
invariant-loop-node l = length l.numbers ≡ l.node-index
