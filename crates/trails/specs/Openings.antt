-- What trees are opened to, as rows.
use Rattle.std.specs.Prelude.{◌≡◌, ℕ, List, Option, Some, None, slice_get}
use Rattle.trees.specs.declared.op.Op.{Op}
use Rattle.trees.specs.Operators.{kids_of}
use Rattle.trees.specs.Trees.{Tree, Trees, Subst, Var, Make, apply, id, count_of}
use Rattle.trees.specs.Things.{ATree, ASubst, Meanings}
use Rattle.substitution.specs.Action.{look}
use Rattle.substitution.specs.Delayed.{kid_at}
use Rattle.trails.specs.declared.open.Opened.{Opened}
use Rattle.trails.specs.declared.open.Opened.TheVariants as opened
use Rattle.trails.specs.declared.open.Read.{Read}
use Rattle.trails.specs.declared.open.Read.TheVariants as read
use Rattle.trails.specs.declared.open.Here.{Here}
use Rattle.trails.specs.declared.open.Here.TheVariants as here

-- a row of the tree, if there is one
abbrev pub RowAt : Meanings → Option ℕ → Option Tree → Type 0
RowAt f None None = Unit {0}
RowAt f (Some row) (Some t) = f row ≡ Some (ATree t)
RowAt f _ _ = ⊥

-- rows of the trees, in their order
pub record AreRows (f : Meanings) (rows : List ℕ) (ts : Trees) : Type 0 where
  pub each : (k : ℕ) → RowAt f (slice_get rows k) (kid_at ts k)

-- the tree is of that operator, over as many kids as it takes, and these are their rows
pub record IsOver (f : Meanings) (op : Op) (rows : List ℕ) (t : Tree) : Type 0 where
  pub kids : Trees
  pub made : t ≡ Make op kids
  pub are : AreRows f rows kids
  pub count : count_of kids ≡ kids_of op

-- the row of a substitution; none for the identity
abbrev pub IsSubstOr : Meanings → Option ℕ → Subst → Type 0
IsSubstOr f None d = d ≡ id
IsSubstOr f (Some row) d = f row ≡ Some (ASubst d)

-- an instance of a tree under a substitution, by their rows
pub record IsInstance (f : Meanings) (row : ℕ) (sub : Option ℕ) (t : Tree) : Type 0 where
  pub tree : Tree
  pub subst : Subst
  pub row_is : f row ≡ Some (ATree tree)
  pub sub_is : IsSubstOr f sub subst
  pub whole : t ≡ apply tree subst

-- what an index becomes under a substitution, and that under a second one
pub record IsMet (f : Meanings) (k sub : ℕ) (rest : Option ℕ) (t : Tree) : Type 0 where
  pub first : Subst
  pub second : Subst
  pub sub_is : f sub ≡ Some (ASubst first)
  pub rest_is : IsSubstOr f rest second
  pub whole : t ≡ apply (look first k) second

abbrev pub IsOpened : Meanings → Opened → Tree → Type 0
IsOpened f (opened.Variable k) t = t ≡ Var k
IsOpened f (opened.Operator op kids) t = IsOver f op kids.items t

abbrev pub IsRead : Meanings → Read → Tree → Type 0
IsRead f (read.Variable k) t = t ≡ Var k
IsRead f (read.Operator op kids) t = IsOver f op kids.items t
IsRead f (read.Instance below sub) t = IsInstance f below (Some sub) t

abbrev pub IsHere : Meanings → Here → Tree → Type 0
IsHere f (here.Opened found) t = IsOpened f found t
IsHere f (here.Tree row sub) t = IsInstance f row sub t
IsHere f (here.Index k sub rest) t = IsMet f k sub rest t

-- a row of the tree, exactly where that is there
abbrev pub Finds : Meanings → Option ℕ → Type 0 → Tree → Type 0
Finds f None There t = There → ⊥
Finds f (Some row) There t = There × (f row ≡ Some (ATree t))
