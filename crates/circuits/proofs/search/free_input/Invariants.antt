use Rattle.std.proofs.Common.{◌≡◌, ◌<◌, ℕ, Some, None, slice_get}
use Rattle.circuits.specs.declared.gates.Gate.TheVariants as gate
use Rattle.circuits.proofs.search.free_input.Given as goal

abbrev pub invariant-loop-at : goal.invariant-loop-at
invariant-loop-at l = (k : ℕ) → k < l.at → slice_get l.gates k ≡ Some gate.Input → slice_get l.known k ≡ Some None → ⊥
