-- What a subtree opens to.
use Rattle.std.specs.Prelude.{◌≡◌, ℕ, suc, ◌+◌, Bool, IsTrue, List, length, Option, Some}
use Rattle.std.specs.Prelude.{MatchOption, option_and_then}
use Rattle.std.specs.List.{All}
use Rattle.trees.specs.declared.op.Op.{Op}
use Rattle.trees.specs.Operators.{binds_of}
use Rattle.trees.specs.Trees.{Tree}
use Rattle.trees.specs.Judgements.{Context}
use Rattle.trees.specs.Things.{ATree, Meanings, made}
use Rattle.closures.specs.declared.environments.Environment.{Environment}
use Rattle.closures.specs.Environments.{Waiting, listed, deepened, IsWithin}
use Rattle.closures.specs.Closures.{IsClosure, Stands, kid_things, all_there}
use Rattle.side_conditions.specs.declared.subtree.Subtree.{Subtree}
use Rattle.side_conditions.specs.declared.shapes.Shape.{Shape}
use Rattle.side_conditions.specs.Levels.{indices, with_names}
use Rattle.side_conditions.specs.Readings.{is_readable}
use Rattle.side_conditions.specs.Shapes.{tree_at, shape_tree, shape_kids, ShapeFits}

-- the subtree is the kid of this row at that place of an operator, below its binders
pub record IsKid (known : List (List Waiting)) (op : Op) (at row : ℕ) (environment : Environment)
    (depth : ℕ) (s : Subtree) : Type 0 where
  pub row_is : s.closure.row.0 ≡ row
  pub list_is : listed known s.closure.environment
      ≡ deepened (binds_of op at) (listed known environment)
  pub within : IsWithin known s.closure.environment
  pub depth_is : s.depth ≡ depth + binds_of op at

-- the tree is no formula and no face, below so many bound names over a context with these indices
abbrev pub IsUnreadable : List Bool → ℕ → Tree → Type 0
IsUnreadable names depth t =
    (G : Context) → indices G ≡ names → IsTrue (is_readable (with_names depth G) t) → ⊥

-- the shape over kids of this environment is that of the tree
pub record OverKids (f : Meanings) (known : List (List Waiting)) (environment : Environment)
    (depth : ℕ) (t : Tree) (shape : Shape) : Type 0 where
  pub tree_is : (count : ℕ) → shape_tree (tree_at f known) count shape ≡ t
  pub fits : (names : List Bool) → ShapeFits names depth shape
  pub stands : (n : ℕ) → Stands f known n environment
      → All (λ k. IsClosure f known (suc n) k.closure) (shape_kids shape)

-- whatever rows mean, the shape is that of an operator over the trees of these, and there is none
-- of other operators
abbrev pub IsShapeOver : List (List Waiting) → Op → List ℕ → Environment → ℕ → Option Shape → Type 0
IsShapeOver known op kids environment depth found =
    (f : Meanings) (t : Tree)
    → let things = kid_things f (listed known environment) op 0 kids in
    option_and_then (made op) (all_there things) ≡ Some (ATree t)
    → MatchOption found
    ((names : List Bool) → IsUnreadable names depth t)
    (λ shape. OverKids f known environment depth t shape)

-- the shape is that of the subtree
pub record IsShapeOf (f : Meanings) (old new : List (List Waiting)) (names : List Bool)
    (at : Subtree) (shape : Shape) : Type 0 where
  pub tree_is : shape_tree (tree_at f new) (at.depth + length names) shape ≡ tree_at f old at
  pub fits : ShapeFits names at.depth shape
  pub stands : (n : ℕ) → IsClosure f old n at.closure
      → All (λ k. IsClosure f new (suc n) k.closure) (shape_kids shape)
