-- What waits in place of a substitution and of what waits after it.
use Rattle.std.specs.Prelude.{◌≡◌, ℕ, ◌+◌, ◌≤◌, List, ◌∷◌, Option}
use Rattle.std.specs.List.{All}
use Rattle.trees.specs.Trees.{Subst}
use Rattle.trees.specs.Things.{Thing, Meanings}
use Rattle.substitution.specs.Delayed.{at_depth}
use Rattle.closures.specs.Environments.{Waiting}
use Rattle.closures.specs.Closures.{IsDelayed, delays, under}
use Rattle.closures.specs.Weights.{weight_of}

-- each of what waits is a substitution, under n binders at most
abbrev pub AllStand : Meanings → ℕ → List Waiting → Type 0
AllStand f n ws = All (λ w. IsDelayed f w.delayed) ws × All (λ w. w.depth ≤ n) ws

-- It means the same, stands under as many binders as that did, and weighs at most so much more.
pub record WaitsFor (f : Meanings) (d : Subst) (weight : ℕ) (ws longer : List Waiting) : Type 0
  where
    pub means : (o : Option Thing) →
        under o (delays f longer) ≡ under o (at_depth 0 d ∷ delays f ws)
    pub stands : (n : ℕ) → AllStand f n ws → AllStand f n longer
    pub weighs : weight_of longer ≤ weight + weight_of ws
