-- Trees under substitutions that are not yet applied.
use Rattle.std.specs.Prelude.{ℕ, zero, suc, ◌+◌, List, [], ◌∷◌, Option, Some, None}
use Rattle.trees.specs.declared.op.Op.{Op}
use Rattle.trees.specs.Operators.{binds_of}
use Rattle.trees.specs.Trees.{Tree, Trees, NoTrees, More, Subst, apply_under}

-- a substitution under so many binders
pub record Delayed : Type 0 where
  pub depth : ℕ
  pub subst : Subst

abbrev pub at_depth : ℕ → Subst → Delayed
at_depth n d = record { depth = n; subst = d }

-- under none
abbrev pub here : Subst → Delayed
here d = at_depth 0 d

-- the tree under these substitutions, the first applied first
abbrev pub closed : Tree → List Delayed → Tree
closed t [] = t
closed t (i ∷ env) = closed (apply_under t i.depth i.subst) env

-- the same substitutions under b more binders
abbrev pub deeper : ℕ → List Delayed → List Delayed
deeper b [] = []
deeper b (i ∷ env) = at_depth (i.depth + b) i.subst ∷ deeper b env

-- the kids of an operator, from the kid `at` on, each under its binders
abbrev pub closed_kids : Trees → Op → ℕ → List Delayed → Trees
closed_kids NoTrees op at env = NoTrees
closed_kids (More t rest) op at env =
    More (closed t (deeper (binds_of op at) env)) (closed_kids rest op (suc at) env)

-- the k-th of these trees, if there are so many
abbrev pub kid_at : Trees → ℕ → Option Tree
kid_at NoTrees k = None
kid_at (More t rest) zero = Some t
kid_at (More t rest) (suc k) = kid_at rest k
