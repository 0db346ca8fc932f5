-- Operators over the rows of their kids, under an environment, and the trees of these.
use Rattle.std.specs.Prelude.{◌≡◌, ℕ, suc, ◌+◌, List, [], ◌∷◌, ◌++◌, length}
use Rattle.std.specs.List.{All}
use Rattle.trees.specs.declared.op.Op.{Op}
use Rattle.trees.specs.Operators.{kids_of, binds_of}
use Rattle.trees.specs.Trees.{Tree, Trees, Var, Make, NoTrees, More, trees_of}
use Rattle.trees.specs.Things.{Meanings}
use Rattle.rows.specs.Views.{IsTree}
use Rattle.closures.specs.declared.closure.Closure.{Closure}
use Rattle.closures.specs.Environments.{Waiting, listed, deepened}
use Rattle.closures.specs.Closures.{IsClosure, Stands, closure_meaning, under, delays}
use Rattle.side_conditions.specs.Shapes.{tree_of}
use Rattle.tree_frames.specs.declared.frames.Frame.{Frame}
use Rattle.tree_frames.specs.declared.frames.Opened.{Opened}
use Rattle.tree_frames.specs.declared.frames.Opened.TheVariants as opened

abbrev pub tree_in : Meanings → List (List Waiting) → Closure → Tree
tree_in f known c = tree_of (closure_meaning f known c)

-- the trees of the kids of an operator, from a place on
abbrev pub kid_trees : Meanings → List Waiting → Op → ℕ → List ℕ → List Tree
kid_trees f ws op at [] = []
kid_trees f ws op at (k ∷ ks) =
    tree_of (under (f k) (delays f (deepened (binds_of op at) ws))) ∷ kid_trees f ws op (suc at) ks

abbrev pub frame_trees : Meanings → List (List Waiting) → Frame → List Tree
frame_trees f known r = kid_trees f (listed known r.environment) r.op 0 r.kids.now

-- how many operators, variables and places of kids a tree has
abbrev mutual
  pub weight : Tree → ℕ
  weight (Var k) = 1
  weight (Make op kids) = suc (weights kids)

  pub weights : Trees → ℕ
  weights NoTrees = 0
  weights (More t rest) = suc (weight t) + weights rest

abbrev pub all_weights : List Tree → ℕ
all_weights [] = 0
all_weights (t ∷ ts) = suc (weight t) + all_weights ts

-- the frame is that of an operator over its kids, under n binders at most
pub record FrameStands (f : Meanings) (known : List (List Waiting)) (n : ℕ) (r : Frame) : Type 0
  where
    pub count : length r.kids.now ≡ kids_of r.op
    pub rows : All (λ k. IsTree (f k)) r.kids.now
    pub environment_stands : Stands f known n r.environment

-- the closure is that of the kid at a place
pub record IsKidAt (f : Meanings) (known : List (List Waiting)) (r : Frame) (at : ℕ) (c : Closure) :
    Type 0 where
  pub tree : (before after : List Tree) (t : Tree) → length before ≡ at
      → frame_trees f known r ≡ before ++ t ∷ after → tree_in f known c ≡ t
  pub stands : (n : ℕ) → Stands f known n r.environment → IsClosure f known (suc n) c
  pub same : (n : ℕ) → Stands f known n r.environment → binds_of r.op at ≡ 0 → IsClosure f known n c

-- the tree is that of an operator over the kids of a frame
pub record IsFrame (f : Meanings) (known : List (List Waiting)) (t : Tree) (r : Frame) : Type 0
  where
    pub count : length r.kids.now ≡ kids_of r.op
    pub rows : All (λ k. IsTree (f k)) r.kids.now
    pub whole : t ≡ Make r.op (trees_of (frame_trees f known r))

-- the frame is that of a closure, none of whose kids is done
pub record OpensFrame (f : Meanings) (old new : List (List Waiting)) (c : Closure) (n : ℕ)
    (r : Frame) : Type 0 where
  pub frame : IsFrame f new (tree_in f old c) r
  pub start : r.at ≡ 0
  pub level : r.level ≡ n
  pub stands : (m : ℕ) → IsClosure f old m c → Stands f new m r.environment

-- what stands outermost in the tree of a closure
abbrev pub OpensTo : Meanings → List (List Waiting) → List (List Waiting) → Closure → ℕ → Opened
    → Type 0
OpensTo f old new c n (opened.Variable k) = Var k ≡ tree_in f old c
OpensTo f old new c n (opened.Operator r) = OpensFrame f old new c n r
