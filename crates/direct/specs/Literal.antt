-- Trees that are literally a form, and whether two trees are the same.
use Rattle.std.specs.Prelude.{◌==◌, ◌&&◌, ℕ, zero, suc, Bool, true, false}
use Rattle.std.specs.Prelude.{Option, None, Some, if◌then◌else◌}
use Rattle.std.specs.Option.{option_and_then}
use denote.Enum.Bare.{sameb}
use Rattle.trees.specs.declared.op.Op.TheVariants as op
use Rattle.trees.specs.contracts.op.Op.{the_type}
use Rattle.trees.specs.Trees.{Tree, Trees, Var, Make, NoTrees, More, apply, push, id, shift_by}
use Rattle.translation.specs.Terms.{lifted, nat, pi, suc as suc_tree}

abbrev mutual
  pub same_tree : Tree → Tree → Bool
  same_tree (Var j) (Var k) = j == k
  same_tree (Make f xs) (Make g ys) = sameb the_type f g && same_trees xs ys
  same_tree _ _ = false

  pub same_trees : Trees → Trees → Bool
  same_trees NoTrees NoTrees = true
  same_trees (More x xs) (More y ys) = same_tree x y && same_trees xs ys
  same_trees _ _ = false

-- a tree was found, and it is this one
abbrev pub is_tree : Option Tree → Tree → Bool
is_tree None W = false
is_tree (Some A) W = same_tree A W

-- `B{a}`, of a tree over one more variable or name
abbrev pub at : Tree → Tree → Tree
at B a = apply B (push id a)

-- a type and a type over a variable of it
pub record Family : Type 0 where
  pub domain : Tree
  pub codomain : Tree

-- a line of types, and its ends
pub record PathType : Type 0 where
  pub line : Tree
  pub left : Tree
  pub right : Tree

abbrev pub pi_of : Tree → Option Family
pi_of (Make op.Pi (More A (More B NoTrees))) = Some (record { domain = A; codomain = B })
pi_of _ = None

abbrev pub sigma_of : Tree → Option Family
sigma_of (Make op.Sig (More A (More B NoTrees))) = Some (record { domain = A; codomain = B })
sigma_of _ = None

abbrev pub path_type_of : Tree → Option PathType
path_type_of (Make op.PathP (More A (More u (More v NoTrees)))) =
    Some (record { line = A; left = u; right = v })
path_type_of _ = None

-- `pi A B`, with B past so many variables of the type A, which stands before them all
abbrev pub pi_over : ℕ → Tree → Tree → Tree
pi_over zero A B = B
pi_over (suc n) A B = pi A (pi_over n (lifted A) B)

-- what a type that takes so many variables of the type A has after them
abbrev pub past : ℕ → Tree → Tree → Option Tree
past zero A W = Some W
past (suc n) A W =
    option_and_then
    (λ F. if same_tree A F.domain then past n (lifted A) F.codomain else None) (pi_of W)

-- `(x : nat) -> P{x} -> P{suc x}`, of a tree over a number
abbrev pub motive_step : Tree → Tree
motive_step P = pi nat (pi P (apply P (push (shift_by 2) (suc_tree (Var 1)))))
