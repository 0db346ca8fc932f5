-- Rows that mean trees, and trees that nest.
use Rattle.std.specs.Prelude.{◌≡◌, ℕ, List, [], ◌∷◌, map, Some}
use Rattle.trees.specs.declared.op.Op.{Op}
use Rattle.trees.specs.Trees.{Tree, Make, trees_of}
use Rattle.trees.specs.Things.{Meanings, ATree, meanings}

-- the row means the tree
pub record Is (f : Meanings) (row : ℕ) (t : Tree) : Type 0 where
  pub is : f row ≡ Some (ATree t)

-- the rows mean the trees, one by one
pub record Are (f : Meanings) (rows : List ℕ) (ts : List Tree) : Type 0 where
  pub are : meanings f rows ≡ Some (map ATree ts)

-- the rows mean trees
abbrev pub AreTrees : Meanings → List ℕ → Type 0
AreTrees f rows = (ts : List Tree) × Are f rows ts

-- the operator over each of the trees and what comes after it
abbrev pub nest : Op → List Tree → Tree → Tree
nest op [] last = last
nest op (t ∷ ts) last = Make op (trees_of (t ∷ nest op ts last ∷ []))

-- the same where the last stands among the trees
abbrev pub nest_all : Op → Op → List Tree → Tree
nest_all op none [] = Make none (trees_of [])
nest_all op none (t ∷ []) = t
nest_all op none (t ∷ u ∷ ts) = Make op (trees_of (t ∷ nest_all op none (u ∷ ts) ∷ []))
