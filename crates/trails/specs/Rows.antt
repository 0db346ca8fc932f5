-- Stations as rows, and what is found of them.
use Rattle.std.specs.Prelude.{◌≡◌, ◌↔◌, ℕ, List, Option, Some, None, slice_get, slice_index}
use Rattle.trees.specs.declared.op.Op.{Op}
use Rattle.trees.specs.declared.op.Op.TheVariants as op
use Rattle.trees.specs.Trees.{Tree, Var, Make}
use Rattle.trees.specs.Language.{TmEq}
use Rattle.trees.specs.Judgements.{Context, Judgement}
use Rattle.trees.specs.Things.{ATree, AContext, Meanings}
use Rattle.trails.specs.declared.station.Sort.TheVariants as sort
use Rattle.trails.specs.declared.station.StationRows.{StationRows}
use Rattle.trails.specs.declared.contexts.Compared.{Compared}
use Rattle.trails.specs.declared.contexts.Compared.TheVariants as compared
use Rattle.trails.specs.declared.glued.Equation.{Equation}
use Rattle.trails.specs.declared.part.Part.{Part}
use Rattle.trails.specs.declared.kids.Listed.{Listed}
use Rattle.trails.specs.Parts.{parts_of}
use Rattle.trails.specs.Stations.{Station}
use Rattle.trails.specs.Kids.{HasKid, kid}
use Rattle.trails.specs.Trails.{Conclusions, AreAlike, IsFirst, OneIs, unglued}

-- the rows are those of the station
pub record Stands (f : Meanings) (rows : StationRows) (s : Station) : Type 0 where
  pub ctx : f rows.ctx ≡ Some (AContext s.ctx)
  pub left : f rows.left ≡ Some (ATree s.left)
  pub right : f rows.right ≡ Some (ATree s.right)
  pub is : rows.sort ≡ s.sort

-- rows of a station to which there is a way, exactly where there is one
pub record Goes (f : Meanings) (rows : StationRows) (Way : Station → Type 0) : Type 0 where
  pub next : Station
  pub way : Way next
  pub stands : Stands f rows next

abbrev pub GoesOr : Meanings → Option StationRows → (Station → Type 0) → Type 0
GoesOr f None Way = (q : Station) → Way q → ⊥
GoesOr f (Some rows) Way = Goes f rows Way

-- a row of a tree of which this holds
pub record RowOf (f : Meanings) (row : ℕ) (P : Tree → Type 0) : Type 0 where
  pub tree : Tree
  pub holds : P tree
  pub is : f row ≡ Some (ATree tree)

abbrev pub FindsFirst : Meanings → Option ℕ → Op → Station → Type 0
FindsFirst f None op s = OneIs op s → ⊥
FindsFirst f (Some row) op s = RowOf f row (IsFirst op s)

-- the operator of a tree
abbrev pub operator_of : Tree → Option Op
operator_of (Var i) = None
operator_of (Make op ts) = Some op

-- the operator of a tree, and what its kid at a place is
pub record IsListed (k : ℕ) (t : Tree) (found : Listed) : Type 0 where
  pub operator : operator_of t ≡ Some found.op
  pub listed : slice_get (parts_of found.op) k ≡ Some found.part

abbrev pub IsListedOr : ℕ → Tree → Option Listed → Type 0
IsListedOr k t None = (op : Op) (part : Part) → operator_of t ≡ Some op
    → slice_get (parts_of op) k ≡ Some part → ⊥
IsListedOr k t (Some found) = IsListed k t found

-- what an equation of terms says, as its rows
pub record IsEquation (f : Meanings) (concluded : Option Judgement) (e : Equation) : Type 0 where
  pub ctx : Context
  pub left : Tree
  pub right : Tree
  pub type : Tree
  pub whole : concluded ≡ Some (TmEq ctx left right type)
  pub ctx_is : f e.ctx ≡ Some (AContext ctx)
  pub left_is : f e.left ≡ Some (ATree left)
  pub right_is : f e.right ≡ Some (ATree right)

-- what nodes conclude they go on to conclude
pub record Widens (old new : Conclusions) : Type 0 where
  pub keeps : (k : ℕ) (J : Judgement) → old k ≡ Some J → new k ≡ Some J

-- the context and the two trees with which a trail begins
pub record Begins (f : Meanings) (ctx : ℕ) (rows : List ℕ) (s : Station) : Type 0 where
  pub ctx_is : f ctx ≡ Some (AContext s.ctx)
  pub left_is : f (slice_index rows 0) ≡ Some (ATree s.left)
  pub right_is : f (slice_index rows 1) ≡ Some (ATree s.right)
  pub is : s.sort ≡ sort.Term

-- a tree that is unglued says how two others are unglued
pub record IsUngluedAs (a : Tree) (s q : Station) : Type 0 where
  pub face : HasKid op.Unglue 0 a
  pub types : HasKid op.Unglue 1 a
  pub maps : HasKid op.Unglue 2 a
  pub goes : q ≡ unglued (kid 0 a) (kid 1 a) (kid 2 a) s

-- the contexts before two last entries that are the same
pub record AreBefore (f : Meanings) (left right : ℕ) (G H : Context) : Type 0 where
  pub left_before : Context
  pub right_before : Context
  pub left_is : f left ≡ Some (AContext left_before)
  pub right_is : f right ≡ Some (AContext right_before)
  pub same : AreAlike G H ↔ AreAlike left_before right_before

-- what is left to compare of two contexts
abbrev pub IsCompared : Meanings → Compared → Context → Context → Type 0
IsCompared f compared.Empty G H = AreAlike G H
IsCompared f compared.Apart G H = AreAlike G H → ⊥
IsCompared f (compared.Before left right) G H = AreBefore f left right G H
