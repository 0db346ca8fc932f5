-- Pairs of closures, and what it takes for them to agree.
use Rattle.std.specs.Prelude.{◌≡◌, ℕ, ◌+◌, ◌<◌, List, [], ◌∷◌, ◌++◌, Contains, Option, Some}
use Rattle.std.specs.List.{All}
use Rattle.trees.specs.Trees.{Tree, Trees, Var, Make, NoTrees, More}
use Rattle.trees.specs.Things.{Thing, ATree, Meanings}
use Rattle.closures.specs.Environments.{Waiting}
use Rattle.closures.specs.Closures.{closure_meaning, IsClosure}
use Rattle.compare.specs.declared.pairs.Pair.{Pair}

abbrev pub Agrees : Meanings → List (List Waiting) → Pair → Type 0
Agrees f known p = closure_meaning f known p.left ≡ closure_meaning f known p.right

-- both closures mean trees, under n binders at most
abbrev pub IsPair : Meanings → List (List Waiting) → ℕ → Pair → Type 0
IsPair f known n p = IsClosure f known n p.left × IsClosure f known n p.right

-- the pairs with one more, unless its closures are one or it is there
pub data Adds (p : Pair) (old new : List Pair) : Type 0 where
  IsOne : p.left ≡ p.right → new ≡ old → Adds p old new
  IsThere : Contains old p → new ≡ old → Adds p old new
  IsNew : new ≡ old ++ p ∷ [] → Adds p old new

-- more pairs, which agree, beside those that were there, exactly where the goal holds
pub record Asks (f : Meanings) (known : List (List Waiting)) (goal : Type 0) (old new : List Pair) :
    Type 0 where
  pub more : List Pair
  pub grown : new ≡ old ++ more
  pub stand : All (IsPair f known 0) more
  pub forth : goal → All (Agrees f known) more
  pub back : All (Agrees f known) new → goal

-- the number of variables and operators of a tree
abbrev mutual
  pub size : Tree → ℕ
  size (Var k) = 1
  size (Make op kids) = sizes kids + 1

  pub sizes : Trees → ℕ
  sizes NoTrees = 0
  sizes (More t rest) = size t + sizes rest

abbrev pub size_of : Option Thing → ℕ
size_of (Some (ATree t)) = size t
size_of _ = 0

abbrev pub pair_size : Meanings → List (List Waiting) → Pair → ℕ
pair_size f known p = size_of (closure_meaning f known p.left)

abbrev pub total : Meanings → List (List Waiting) → List Pair → ℕ
total f known [] = 0
total f known (p ∷ ps) = pair_size f known p + total f known ps

-- a pair was opened: it agrees exactly where the further pairs do, beside smaller ones that were
-- there
pub record Opens (f : Meanings) (known : List (List Waiting)) (p : Pair) (old new : List Pair) :
    Type 0 where
  pub more : List Pair
  pub grown : new ≡ old ++ more
  pub forth : Agrees f known p → All (Agrees f known) more
  pub back : ((q : Pair) → Contains new q →
      pair_size f known q < pair_size f known p → Agrees f known q) → Agrees f known p
  pub less : total f known more < pair_size f known p
