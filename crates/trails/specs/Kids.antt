-- Kids of trees.
use Rattle.std.specs.Prelude.{◌≡◌, ℕ, IsSome, unwrap_or}
use Rattle.trees.specs.declared.op.Op.{Op}
use Rattle.trees.specs.Trees.{Tree, Trees, Var, Make}
use Rattle.substitution.specs.Delayed.{kid_at}

-- the kid at a place, counted from 0; the tree itself where it has none there
abbrev pub kid : ℕ → Tree → Tree
kid k (Var i) = Var i
kid k (Make op ts) = unwrap_or (kid_at ts k) (Make op ts)

-- the tree is of that operator, with a kid at that place
pub record HasKid (op : Op) (k : ℕ) (t : Tree) : Type 0 where
  pub kids : Trees
  pub made : t ≡ Make op kids
  pub there : IsSome (kid_at kids k)
