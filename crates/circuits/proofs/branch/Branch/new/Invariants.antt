use Rattle.std.proofs.Common.{◌≡◌, length, None}
use Rattle.std.specs.List.{All}
use Rattle.circuits.proofs.branch.Branch.new.Given as goal

abbrev pub invariant-loop-gate : goal.invariant-loop-gate
invariant-loop-gate l = (length l.known.items ≡ l.gate-index) × All (λ x. x ≡ None) l.known.items
