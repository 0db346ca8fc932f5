-- The sizes of trees.
use Rattle.std.specs.Prelude.{ℕ, ◌+◌}
use Rattle.trees.specs.Trees.{Tree, Trees, Var, Make, NoTrees, More}

-- the number of variables and operators of a tree
abbrev mutual
  pub size : Tree → ℕ
  size (Var k) = 1
  size (Make op kids) = sizes kids + 1

  pub sizes : Trees → ℕ
  sizes NoTrees = 0
  sizes (More t rest) = size t + sizes rest
