-- What branches of the search stand for.
use Rattle.std.specs.Prelude.{◌≡◌, ◌<◌, ◌≤◌, ◌+◌, ◌*◌, ◌^◌, ℕ, Bool, true, false, ◌&&◌, IsTrue}
use Rattle.std.specs.Prelude.{List, [], ◌∷◌, ◌++◌, length, Contains, Option, Some, None, slice_get}
use Rattle.std.specs.List.{All, Any, sum_by}
use Rattle.circuits.specs.declared.gates.Gate.{Gate}
use Rattle.circuits.specs.declared.gates.Wire.{Wire}
use Rattle.circuits.specs.declared.branch.Branch.{Branch}
use Rattle.circuits.specs.declared.branch.Asks.{Asks}
use Rattle.circuits.specs.declared.branch.Asks.TheVariants as asks
use Rattle.circuits.specs.Circuits.{Labels, wire_truth, Obeys, IsIn, AreTrue, CanBeTrue}

-- it speaks of these gates alone
pub record IsWithin (gates : List Gate) (b : Branch) : Type 0 where
  pub known : length b.known.items ≡ length gates
  pub wanted : All (IsIn gates) b.wanted.items
  pub unsettled : All (λ g. g < length gates) b.unsettled.items

-- the truths are as it says
pub record Fits (w : Labels) (b : Branch) : Type 0 where
  pub known : (k : ℕ) (truth : Bool) → slice_get b.known.items k ≡ Some (Some truth) → w k ≡ truth
  pub wanted : AreTrue w b.wanted.items
  pub unsettled : All (λ g. w g ≡ false) b.unsettled.items

-- what two wires ask for that are not both true
abbrev pub AsksOf : Branch → Wire → Wire → Asks → Type 0
AsksOf b l r asks.Nothing = Unit {0}
AsksOf b l r (asks.One x) =
    (x.gate < length b.known.items) × ((w : Labels) → Fits w b
    → (wire_truth w l && wire_truth w r) ≡ false → IsTrue (wire_truth w x))
AsksOf b l r asks.Either = Unit {0}

-- how many gates are not fixed
abbrev pub unknown : List (Option Bool) → ℕ
unknown [] = 0
unknown (None ∷ rest) = 1 + unknown rest
unknown (Some truth ∷ rest) = unknown rest

-- how much there is to do in a branch at most, where none is split
abbrev pub weight : Branch → ℕ
weight b = 5 * unknown b.known.items + length b.wanted.items + 3 * length b.unsettled.items

-- and in all branches
abbrev pub work : List Branch → ℕ
work branches = sum_by (λ b. 3 ^ weight b) branches

-- one unsettled gate is taken out
pub record IsTakenOut (old new : Branch) (g : ℕ) : Type 0 where
  pub known : new.known ≡ old.known
  pub wanted : new.wanted ≡ old.wanted
  pub gate : Contains old.unsettled.items g
  pub rest : (h : ℕ) → Contains new.unsettled.items h → Contains old.unsettled.items h
  pub less : length new.unsettled.items + 1 ≡ length old.unsettled.items

-- further branches: what fits so fits one of them, and there is less to do in them than that
pub record Adds (gates : List Gate) (Q : Labels → Type 0) (room : ℕ) (old new : List Branch)
    : Type 0 where
  pub more : List Branch
  pub grown : new ≡ old ++ more
  pub within : All (IsWithin gates) more
  pub covers : (w : Labels) → Obeys gates w → Q w → Any (Fits w) more
  pub less : 3 * work more ≤ room

-- the wires can be true, or further branches stand for this one
pub record Follows (gates : List Gate) (goals : List Wire) (b : Branch) (old new : List Branch)
    (found : Bool) : Type 0 where
  pub yes : found ≡ true → CanBeTrue gates goals
  pub no : found ≡ false
      → Adds gates (λ w. Fits w b × AreTrue w goals) (2 * 3 ^ weight b) old new
