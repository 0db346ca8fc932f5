-- How much a walk can still open. A row names earlier rows, so that what it opens to weighs less.
use Rattle.std.specs.Prelude.{ℕ, ◌+◌, ◌^◌, ◌<◌, List, [], ◌∷◌}
use Rattle.closures.specs.Environments.{Waiting, listed}
use Rattle.closures.specs.declared.environments.Delayed.{Delayed}
use Rattle.closures.specs.declared.environments.Delayed.TheVariants.{Under, Raised}
use Rattle.closures.specs.declared.closure.Closure.{Closure}
use Rattle.closures.specs.declared.variables.Entered.{Entered}
use Rattle.closures.specs.declared.variables.Entered.TheVariants as entered
use Rattle.closures.specs.declared.variables.Found.{Found}
use Rattle.closures.specs.declared.variables.Found.TheVariants as found

abbrev pub row_weight : ℕ → ℕ
row_weight row = 3 ^ row

abbrev pub delayed_weight : Delayed → ℕ
delayed_weight (Under row) = row_weight row.0
delayed_weight (Raised n) = 1

abbrev pub weight_of : List Waiting → ℕ
weight_of [] = 0
weight_of (w ∷ ws) = delayed_weight w.delayed + weight_of ws

abbrev pub closure_weight : List (List Waiting) → Closure → ℕ
closure_weight known c = row_weight c.row.0 + weight_of (listed known c.environment)

abbrev pub entered_weight : List (List Waiting) → Entered → ℕ
entered_weight known (entered.Past k environment) = weight_of (listed known environment)
entered_weight known (entered.Tree c) = closure_weight known c

-- a tree that is found weighs something that is less than n
abbrev pub FoundLess : List (List Waiting) → ℕ → Found → Type 0
FoundLess known n (found.Index k) = Unit {0}
FoundLess known n (found.Tree c) = closure_weight known c < n
