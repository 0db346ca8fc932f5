-- The trees that a substitution pushes, as rows.
use Rattle.std.specs.Prelude.{◌≡◌, ◌<◌, ℕ, zero, suc, List, [], ◌∷◌, Some}
use Rattle.trees.specs.Trees.{Tree, Trees, NoTrees, More, Subst, shift_by, push}
use Rattle.trees.specs.Things.{ATree, ASubst, Meanings}
use Rattle.deriv_file.specs.declared.row.Row.{Row}
use Rattle.book_writer.specs.Means.{lines_mean}
use Rattle.book_writer.specs.declared.makes.SubLine.{SubLine}
use Rattle.book_writer.specs.declared.makes.SubLine.TheVariants as line

-- these rows mean these trees
abbrev pub MeanTrees : Meanings → List ℕ → Trees → Type 0
MeanTrees f [] NoTrees = Unit {0}
MeanTrees f (k ∷ ks) (More t rest) = (f k ≡ Some (ATree t)) × MeanTrees f ks rest
MeanTrees f _ _ = ⊥

-- the rows mean the trees that d pushes, the last one first, and that is its shift
pub record ArePushed (f : Meanings) (ks : List ℕ) (n : ℕ) (d : Subst) : Type 0 where
  pub trees_are : MeanTrees f ks d.pushed
  pub shift_is : d.shift ≡ n

-- the trees without the first n
abbrev pub dropped : ℕ → Trees → Trees
dropped zero ts = ts
dropped (suc n) NoTrees = NoTrees
dropped (suc n) (More t rest) = dropped n rest

-- row k is the substitution d: a tree of row t pushed on that of row s, which is earlier
pub record PushedAt (rows : List Row) (k s t : ℕ) (d : Subst) : Type 0 where
  pub sub : Subst
  pub tree : Tree
  pub sub_is : lines_mean rows s ≡ Some (ASubst sub)
  pub tree_is : lines_mean rows t ≡ Some (ATree tree)
  pub whole : d ≡ push sub tree
  pub earlier : s < k

abbrev pub IsSubLine : List Row → ℕ → Subst → SubLine → Type 0
IsSubLine rows k d (line.Shift n) = d ≡ shift_by n
IsSubLine rows k d (line.Push s t) = PushedAt rows k s t d
