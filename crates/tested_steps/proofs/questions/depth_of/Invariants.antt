use Rattle.std.proofs.Common.{◌+◌, ◌≤◌}
use Rattle.tested_steps.proofs.questions.depth_of.Given as goal

-- each entry is a row of its own
abbrev pub invariant-loop-ctx : goal.invariant-loop-ctx
invariant-loop-ctx l = l.depth + l.ctx ≤ l.fn.ctx

abbrev pub decreases-loop-ctx : goal.decreases-loop-ctx
decreases-loop-ctx l = l.ctx
