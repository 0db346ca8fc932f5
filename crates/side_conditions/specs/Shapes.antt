-- What stands outermost in a formula or a face, as a tree.
use Rattle.std.specs.Prelude.{◌≡◌, ℕ, zero, suc, ◌+◌, ◌-◌, ◌<◌, Bool, true, false, IsTrue, List, []}
use Rattle.std.specs.Prelude.{◌∷◌, length, slice_index_or, Option, Some, None}
use Rattle.trees.specs.declared.op.Op.{Op}
use Rattle.trees.specs.declared.op.Op.TheVariants as op
use Rattle.trees.specs.Trees.{Tree, Var, Make, NoTrees, More}
use Rattle.trees.specs.Judgements.{Context, WithName}
use Rattle.trees.specs.Things.{Thing, ATree, Meanings}
use Rattle.closures.specs.Environments.{Waiting}
use Rattle.closures.specs.Closures.{closure_meaning}
use Rattle.side_conditions.specs.declared.subtree.Subtree.{Subtree}
use Rattle.side_conditions.specs.declared.shapes.Nullary.{Nullary}
use Rattle.side_conditions.specs.declared.shapes.Nullary.TheVariants as nullary
use Rattle.side_conditions.specs.declared.shapes.Unary.{Unary}
use Rattle.side_conditions.specs.declared.shapes.Unary.TheVariants as unary
use Rattle.side_conditions.specs.declared.shapes.Binary.{Binary}
use Rattle.side_conditions.specs.declared.shapes.Binary.TheVariants as binary
use Rattle.side_conditions.specs.declared.shapes.Connective.{Connective}
use Rattle.side_conditions.specs.declared.shapes.Connective.TheVariants as connective
use Rattle.side_conditions.specs.declared.shapes.Shape.{Shape}
use Rattle.side_conditions.specs.declared.shapes.Shape.TheVariants as shape

abbrev pub nullary_op : Nullary → Op
nullary_op nullary.Zero = op.I0
nullary_op nullary.One = op.I1
nullary_op nullary.Bottom = op.F0
nullary_op nullary.Top = op.F1

abbrev pub unary_op : Unary → Op
unary_op unary.Neg = op.Neg
unary_op unary.IsZero = op.Eq0
unary_op unary.IsOne = op.Eq1
unary_op unary.All = op.All

abbrev pub binary_op : Binary → Op
binary_op binary.Min = op.Min
binary_op binary.Max = op.Max
binary_op binary.Meet = op.Meet
binary_op binary.Join = op.Join

-- an operator of formulas and faces
abbrev pub connective_of : Op → Option Connective
connective_of op.I0 = Some (connective.Nullary nullary.Zero)
connective_of op.I1 = Some (connective.Nullary nullary.One)
connective_of op.F0 = Some (connective.Nullary nullary.Bottom)
connective_of op.F1 = Some (connective.Nullary nullary.Top)
connective_of op.Neg = Some (connective.Unary unary.Neg)
connective_of op.Eq0 = Some (connective.Unary unary.IsZero)
connective_of op.Eq1 = Some (connective.Unary unary.IsOne)
connective_of op.All = Some (connective.Unary unary.All)
connective_of op.Min = Some (connective.Binary binary.Min)
connective_of op.Max = Some (connective.Binary binary.Max)
connective_of op.Meet = Some (connective.Binary binary.Meet)
connective_of op.Join = Some (connective.Binary binary.Join)
connective_of _ = None

-- the number of names that the kid is below
abbrev pub bound_by : Unary → ℕ
bound_by unary.All = 1
bound_by _ = 0

-- the context of the kid
abbrev pub within : Unary → Context → Context
within unary.All G = WithName G
within _ G = G

-- the tree that a thing is
abbrev pub tree_of : Option Thing → Tree
tree_of (Some (ATree t)) = t
tree_of _ = Var 0

abbrev pub tree_at : Meanings → List (List Waiting) → Subtree → Tree
tree_at f known s = tree_of (closure_meaning f known s.closure)

-- the tree of a shape over such subtrees, where so many indices are in scope
abbrev pub shape_tree : (Subtree → Tree) → ℕ → Shape → Tree
shape_tree at count (shape.Name level) = Var (count - suc level)
shape_tree at count (shape.Nullary c) = Make (nullary_op c) NoTrees
shape_tree at count (shape.Unary c s) = Make (unary_op c) (More (at s) NoTrees)
shape_tree at count (shape.Binary c s t) = Make (binary_op c) (More (at s) (More (at t) NoTrees))

abbrev pub shape_kids : Shape → List Subtree
shape_kids (shape.Name level) = []
shape_kids (shape.Nullary c) = []
shape_kids (shape.Unary c s) = s ∷ []
shape_kids (shape.Binary c s t) = s ∷ t ∷ []

-- whether each index is that of a name, below so many bound names
abbrev pub with_bound : ℕ → List Bool → List Bool
with_bound zero names = names
with_bound (suc n) names = true ∷ with_bound n names

-- a shape below so many bound names: a name is one, and kids stand at their depth
abbrev pub ShapeFits : List Bool → ℕ → Shape → Type 0
ShapeFits names depth (shape.Name level) =
    let count = depth + length names in
    (level < count) × IsTrue (slice_index_or (with_bound depth names) (count - suc level) false)
ShapeFits names depth (shape.Nullary c) = Unit {0}
ShapeFits names depth (shape.Unary c s) = s.depth ≡ bound_by c + depth
ShapeFits names depth (shape.Binary c s t) = (s.depth ≡ depth) × (t.depth ≡ depth)
