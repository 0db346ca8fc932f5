-- What a tree is read as.
use Rattle.std.specs.Prelude.{◌≡◌, ℕ, List, [], ◌∷◌, ◌++◌, map, Option, Some}
use Rattle.std.specs.List.{All}
use Rattle.trees.specs.declared.op.Op.{Op}
use Rattle.trees.specs.Operators.{kids_of, binds_of}
use Rattle.trees.specs.Trees.{Tree, Make, NoTrees}
use Rattle.trees.specs.Things.{Meanings}
use Rattle.closures.specs.declared.closure.Closure.{Closure}
use Rattle.closures.specs.Environments.{Waiting}
use Rattle.closures.specs.Closures.{IsClosure}
use Rattle.tree_frames.specs.Frames.{tree_in}
use Rattle.normal_formulas.specs.Atoms.{nested, IsNot}

-- the tree is that of a thing exactly where it is read as this thing
pub record Reads {X : Type 0} (build : X → Tree) (t : Tree) (found : Option X) : Type 0 where
  pub sound : (x : X) → found ≡ Some x → t ≡ build x
  pub complete : (x : X) → t ≡ build x → found ≡ Some x

-- the operator joins two trees and binds nothing
pub record IsJoiner (o : Op) : Type 0 where
  pub two : kids_of o ≡ 2
  pub first : binds_of o 0 ≡ 0
  pub second : binds_of o 1 ≡ 0

-- the tree is nested of these, as often as it can be
pub record IsSplit (o none : Op) (t : Tree) (ts : List Tree) : Type 0 where
  pub whole : t ≡ nested o none ts
  pub last : (us : List Tree) (u : Tree) → ts ≡ us ++ u ∷ [] → IsNot o u
  pub some : ts ≡ Make none NoTrees ∷ [] → ⊥

abbrev pub trees_at : Meanings → List (List Waiting) → List Closure → List Tree
trees_at f known cs = map (tree_in f known) cs

-- closures of such trees
pub record AreParts (f : Meanings) (known : List (List Waiting)) (n : ℕ) (o none : Op) (t : Tree)
    (parts : List Closure) : Type 0 where
  pub split : IsSplit o none t (trees_at f known parts)
  pub stand : All (IsClosure f known n) parts
