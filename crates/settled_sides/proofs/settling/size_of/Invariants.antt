use Rattle.std.proofs.Common.{◌+◌, ◌≤◌}
use Rattle.settled_sides.proofs.settling.size_of.Given as goal

-- each entry is a row of its own
abbrev pub invariant-loop-entries : goal.invariant-loop-entries
invariant-loop-entries l = l.levels + l.faces + l.ctx ≤ l.fn.ctx

abbrev pub decreases-loop-entries : goal.decreases-loop-entries
decreases-loop-entries l = l.ctx
