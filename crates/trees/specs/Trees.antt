-- Trees and substitutions with de Bruijn indices, and what a substitution does to a tree.
use Rattle.std.specs.Prelude.{ℕ, zero, suc, ◌+◌, ◌^◌, List, [], ◌∷◌}
use Rattle.trees.specs.declared.op.Op.{Op}
use Rattle.trees.specs.Operators.{binds_of}

-- a variable, by its index, or an operator with its kids
mutual
  pub data Tree : Type 0 where
    Var : ℕ → Tree
    Make : Op → Trees → Tree

  pub data Trees : Type 0 where
    NoTrees : Trees
    More : Tree → Trees → Trees

abbrev pub trees_of : List Tree → Trees
trees_of [] = NoTrees
trees_of (t ∷ ts) = More t (trees_of ts)

-- the number of trees
abbrev pub count_of : Trees → ℕ
count_of NoTrees = zero
count_of (More t rest) = suc (count_of rest)

-- A shift with a list of pushed trees, the last pushed first: with a and b pushed in this order on
-- a shift by n it takes 0 to b, 1 to a, and k + 2 to k + n.
pub record Subst : Type 0 where
  pub pushed : Trees
  pub shift : ℕ

-- the index k, where the indices from `from` on are raised by n
abbrev pub raise_index : ℕ → ℕ → ℕ → ℕ
raise_index zero n k = k + n
raise_index (suc from) n zero = zero
raise_index (suc from) n (suc k) = suc (raise_index from n k)

-- the tree with its free indices from `from` on raised by n
abbrev mutual
  pub raise : Tree → ℕ → ℕ → Tree
  raise (Var k) from n = Var (raise_index from n k)
  raise (Make op kids) from n = Make op (raise_kids kids op 0 from n)

  pub raise_kids : Trees → Op → ℕ → ℕ → ℕ → Trees
  raise_kids NoTrees op at from n = NoTrees
  raise_kids (More t rest) op at from n =
      More (raise t (from + binds_of op at) n) (raise_kids rest op (suc at) from n)

-- what the index k becomes
abbrev pub entry : Trees → ℕ → ℕ → Tree
entry NoTrees shift k = Var (k + shift)
entry (More t rest) shift zero = t
entry (More t rest) shift (suc k) = entry rest shift k

-- the same under `depth` binders, whose indices stay
abbrev pub entry_under : ℕ → Subst → ℕ → Tree
entry_under zero d k = entry d.pushed d.shift k
entry_under (suc depth) d zero = Var zero
entry_under (suc depth) d (suc k) = raise (entry_under depth d k) 0 1

-- `A[d]`, under `depth` binders
abbrev mutual
  pub apply_under : Tree → ℕ → Subst → Tree
  apply_under (Var k) depth d = entry_under depth d k
  apply_under (Make op kids) depth d = Make op (apply_kids kids op 0 depth d)

  pub apply_kids : Trees → Op → ℕ → ℕ → Subst → Trees
  apply_kids NoTrees op at depth d = NoTrees
  apply_kids (More t rest) op at depth d =
      More (apply_under t (depth + binds_of op at) d) (apply_kids rest op (suc at) depth d)

-- `A[d]`: `H >> A[d]`, where `d : H to G` and `G >> A`, and `H >> a[d] : A[d]`, where `d : H to G`
-- and `G >> a : A`
abbrev pub apply : Tree → Subst → Tree
apply t d = apply_under t 0 d

-- `shift_by 0 : G to G`, where `ctx G`; `shift_by (suc n) : H.A to G`, where `shift_by n : H to G`
-- and `H >> A`, and so for a name, `H.I`
abbrev pub shift_by : ℕ → Subst
shift_by n = record { pushed = NoTrees; shift = n }

-- `push d a : H to G.A`, where `d : H to G`, `G >> A` and `H >> a : A[d]`; `push d r : H to G.I`,
-- where `d : H to G` and r is a formula over H
abbrev pub push : Subst → Tree → Subst
push d a = record { pushed = More a d.pushed; shift = d.shift }

-- these trees pushed on that shift, without the first n: past the trees the shift grows
abbrev pub without : ℕ → Trees → ℕ → Subst
without n NoTrees shift = record { pushed = NoTrees; shift = shift + n }
without zero (More t rest) shift = record { pushed = More t rest; shift = shift }
without (suc n) (More t rest) shift = without n rest shift

abbrev pub then_from : Trees → ℕ → Subst → Subst
then_from NoTrees shift e = without shift e.pushed e.shift
then_from (More a rest) shift e = push (then_from rest shift e) (apply a e)

-- first d, then e: `d then e : K to G`, where `d : H to G` and `e : K to H`
abbrev pub then : Subst → Subst → Subst
then d e = then_from d.pushed d.shift e

-- `id : G to G`, where `ctx G`
abbrev pub id : Subst
id = shift_by 0

-- `up : G.A to G`, where `G >> A`, and `up : G.I to G`, where `ctx G`
abbrev pub up : Subst
up = shift_by 1

-- the greatest shift of a substitution that is spelt, and that `then` takes:
-- 4,611,686,018,427,387,904
abbrev pub greatest_shift : ℕ
greatest_shift = 2 ^ 62
