-- The kids of one operator on both sides of a pair.
use Rattle.std.specs.Prelude.{◌≡◌, ℕ, ◌+◌, ◌≤◌, List, [], ◌∷◌, ◌++◌, Contains, Option, length}
use Rattle.std.specs.List.{All}
use Rattle.trees.specs.declared.op.Op.{Op}
use Rattle.trees.specs.Operators.{kids_of}
use Rattle.trees.specs.Things.{Thing, Meanings}
use Rattle.rows.specs.Views.{IsTree}
use Rattle.closures.specs.Environments.{Waiting, listed}
use Rattle.closures.specs.Closures.{Stands, kid_things}
use Rattle.compare.specs.Pairs.{Agrees, size_of, pair_size, total}
use Rattle.closures.specs.declared.environments.Environment.{Environment}
use Rattle.compare.specs.declared.pairs.Pair.{Pair}

abbrev pub kids_meant : Meanings → List (List Waiting) →
    Op → List ℕ → Environment → List (Option Thing)
kids_meant f known op kids environment = kid_things f (listed known environment) op 0 kids

-- the operator's kids, as many as it has, are rows of trees, under an environment that waits under
-- n binders at most
pub record KidsStand (f : Meanings) (known : List (List Waiting)) (n : ℕ)
    (op : Op) (kids : List ℕ) (environment : Environment) : Type 0 where
  pub rows : All (λ k. IsTree (f k)) kids
  pub count : length kids ≡ kids_of op
  pub environment_stands : Stands f known n environment

abbrev pub sum_of_sizes : List (Option Thing) → ℕ
sum_of_sizes [] = 0
sum_of_sizes (x ∷ xs) = size_of x + sum_of_sizes xs

-- the things on both sides are compared by further pairs, or by pairs that were there, none larger
-- than all of them
pub record KidsOpen (f : Meanings) (known : List (List Waiting))
    (lefts rights : List (Option Thing)) (old new : List Pair) : Type 0 where
  pub more : List Pair
  pub grown : new ≡ old ++ more
  pub forth : lefts ≡ rights → All (Agrees f known) more
  pub back : (n : ℕ) → sum_of_sizes lefts ≤ n →
      ((q : Pair) → Contains new q → pair_size f known q ≤ n → Agrees f known q) → lefts ≡ rights
  pub less : total f known more ≤ sum_of_sizes lefts
