-- Which gates of a circuit are true together.
use Rattle.std.specs.Prelude.{◌≡◌, ◌<◌, ℕ, Bool, true, false, not, cond, ◌&&◌, IsTrue, List, ◌++◌}
use Rattle.std.specs.Prelude.{length, Some, slice_get}
use Rattle.std.specs.List.{All}
use mathlib.Core.HLevel.{×_prop, Unit-prop}
use native.Mathlib.Bridge.{le_prop}
use Rattle.circuits.specs.declared.gates.Gate.{Gate}
use Rattle.circuits.specs.declared.gates.Gate.TheVariants as gate
use Rattle.circuits.specs.declared.gates.Wire.{Wire}

-- whether the gate of each number is true
abbrev pub Labels : Type 0
Labels = ℕ → Bool

abbrev pub wire_truth : Labels → Wire → Bool
wire_truth w x = cond x.negated (not (w x.gate)) (w x.gate)

-- the gate of that number is true exactly where it has to be
abbrev pub IsAsGate : Labels → ℕ → Gate → Type 0
IsAsGate w k gate.Top = w k ≡ true
IsAsGate w k gate.Input = Unit {0}
IsAsGate w k (gate.Both l r) = w k ≡ (wire_truth w l && wire_truth w r)

-- and so is each gate: inputs are free
pub record Obeys (gates : List Gate) (w : Labels) : Type 0 where
  pub each : (k : ℕ) (g : Gate) → slice_get gates k ≡ Some g → IsAsGate w k g

-- the wire is one of these gates
abbrev pub IsIn : List Gate → Wire → Type 0
IsIn gates x = x.gate < length gates

abbrev pub IsOver : ℕ → Gate → Type 0
IsOver k gate.Top = Unit {0}
IsOver k gate.Input = Unit {0}
IsOver k (gate.Both l r) = (l.gate < k) × (r.gate < k)

pub IsOver-prop : (k : ℕ) (g : Gate) → IsProp (IsOver k g)
IsOver-prop k gate.Top = Unit-prop
IsOver-prop k gate.Input = Unit-prop
IsOver-prop k (gate.Both l r) = ×_prop (λ p q. le_prop p q) (λ p q. le_prop p q)

-- gates come after their kids
pub record AreOrdered (gates : List Gate) : Type 0 where
  pub each : (k : ℕ) (g : Gate) → slice_get gates k ≡ Some g → IsOver k g

abbrev pub AreTrue : Labels → List Wire → Type 0
AreTrue w wires = All (λ x. IsTrue (wire_truth w x)) wires

-- for some truths of the inputs these wires are true together
abbrev pub CanBeTrue : List Gate → List Wire → Type 0
CanBeTrue gates wires = (w : Labels) × Obeys gates w × AreTrue w wires

-- there may be further gates
pub record IsGrown (old new : List Gate) : Type 0 where
  pub more : List Gate
  pub grown : new ≡ old ++ more

-- the wire is that gate
pub record IsPlaced (gates : List Gate) (g : Gate) (x : Wire) : Type 0 where
  pub place : slice_get gates x.gate ≡ Some g
  pub plain : x.negated ≡ false
