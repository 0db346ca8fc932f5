use Rattle.std.proofs.Common.{◌≡◌, length}
use Rattle.tested_steps.proofs.run.picked.Given as goal

abbrev pub invariant-loop-place : goal.invariant-loop-place
invariant-loop-place l = length l.few ≡ l.place-index
