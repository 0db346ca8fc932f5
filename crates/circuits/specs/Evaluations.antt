-- The truths of gates that those of inputs give.
use Rattle.std.specs.Prelude.{◌≡◌, ◌<◌, ℕ, Bool, true, false, List, length, Option, Some, None}
use Rattle.std.specs.Prelude.{slice_get, slice_index_or, unwrap_or, ◌&&◌}
use Rattle.circuits.specs.declared.gates.Gate.{Gate}
use Rattle.circuits.specs.declared.gates.Gate.TheVariants as gate
use Rattle.circuits.specs.Circuits.{Labels, wire_truth}

abbrev pub labels_of : List Bool → Labels
labels_of truths k = slice_index_or truths k false

-- by those of other gates: an input that is not fixed is false
abbrev pub evaluated_gate : Labels → Option Bool → Gate → Bool
evaluated_gate w known gate.Top = true
evaluated_gate w known gate.Input = unwrap_or known false
evaluated_gate w known (gate.Both l r) = wire_truth w l && wire_truth w r

-- the truths of the first n gates
pub record IsEvaluated (gates : List Gate) (known : List (Option Bool)) (truths : List Bool)
    (n : ℕ) : Type 0 where
  pub all : length truths ≡ n
  pub each : (k : ℕ) (g : Gate) → k < n → slice_get gates k ≡ Some g
      → labels_of truths k ≡ evaluated_gate (labels_of truths) (slice_index_or known k None) g

-- the gate of that number is an input, whose truth is not fixed
pub record IsFree (gates : List Gate) (known : List (Option Bool)) (k : ℕ) : Type 0 where
  pub input : slice_get gates k ≡ Some gate.Input
  pub unfixed : slice_get known k ≡ Some None

-- the truths of all inputs are fixed
pub record NoneIsFree (gates : List Gate) (known : List (Option Bool)) : Type 0 where
  pub each : (k : ℕ) → slice_get gates k ≡ Some gate.Input → slice_get known k ≡ Some None → ⊥
