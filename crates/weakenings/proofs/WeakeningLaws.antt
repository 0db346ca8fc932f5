-- What shifts do to what is there, so that no further row is needed.
use Rattle.std.proofs.Common.{◌≡◌, ◌≤◌, ◌+◌, ◌-◌, ℕ, zero, suc, refl, sym, ◌∙◌, ap, ap₂, subst, arith, Option, Some, None, IsSome}
use Rattle.trees.specs.Trees.{Tree, Trees, NoTrees, More, Subst, Var, apply, entry, shift_by, count_of, then, without}
use Rattle.trees.specs.Things.{Thing, ATree, ASubst, AContext, both, instance_of, then_of}
use Rattle.substitution.proofs.ThenLaws.{apply-id, apply-then}
use Rattle.rows.specs.declared.views.SubSize.{SubSize}
use Rattle.rows.specs.Views.{IsPushed, IsSizeOf}

-- all trees are dropped
without-all : (n : ℕ) (ts : Trees) (s : ℕ) → count_of ts ≤ n → without n ts s ≡ shift_by (n - count_of ts + s)
without-all n NoTrees s l = ap shift_by (omega arith)
without-all zero (More t rest) s l = absurd (omega arith)
without-all (suc n) (More t rest) s l = without-all n rest s (omega arith) ∙ ap shift_by (let e : n - count_of rest + s ≡ suc n - suc (count_of rest) + s = omega arith in e)

-- a substitution by what is told of its size
pub record IsSized (o : Option Thing) (pushed shift : ℕ) : Type 0 where
  pub sub : Subst
  pub is : o ≡ Some (ASubst sub)
  pub count : count_of sub.pushed ≡ pushed
  pub by : sub.shift ≡ shift

pub sized : (o : Option Thing) (size : SubSize) (pushed : ℕ) → IsSizeOf o size → size.pushed ≡ Some pushed → IsSized o pushed size.shift
sized None size pushed is p = absurd is
sized (Some (ATree t)) size pushed is p = absurd is
sized (Some (AContext G)) size pushed is p = absurd is
sized (Some (ASubst d)) size pushed is p =
    let Counts : Option ℕ → Type 0 = IsPushed (count_of d.pushed) in
    record { sub = d; is = refl; count = subst Counts p is.0; by = is.1 }

nothing_pushed : (ts : Trees) → count_of ts ≡ 0 → ts ≡ NoTrees
nothing_pushed NoTrees e = refl
nothing_pushed (More t rest) e = absurd (omega arith)

pub is_shift : (o : Option Thing) (shift : ℕ) → IsSized o 0 shift → o ≡ Some (ASubst (shift_by shift))
is_shift o shift s = s.is ∙ ap₂ (λ ts n. Some (ASubst (record { pushed = ts; shift = n }))) (nothing_pushed s.sub.pushed s.count) s.by

-- a shift, and then a substitution of which it drops all trees, is a shift
pub both_shift : (o p : Option Thing) (n pushed shift by : ℕ) → IsSized o 0 n → IsSized p pushed shift → pushed ≤ n → by ≡ n - pushed + shift → both then_of o p ≡ Some (ASubst (shift_by by))
both_shift o p n pushed shift by a b l e =
    ap₂ (both then_of) (is_shift o n a) b.is
    ∙ ap (λ d. Some (ASubst d)) (without-all n b.sub.pushed b.sub.shift (let c = b.count in omega arith))
    ∙ ap (λ k. Some (ASubst (shift_by k))) (let c = b.count in let s = b.by in omega arith)

-- a tree under the identity
pub under_identity : (o p : Option Thing) → IsSome (both instance_of o p) → IsSized p 0 0 → o ≡ both instance_of o p
under_identity o p some s = subst (λ q. IsSome (both instance_of o q) → o ≡ both instance_of o q) (sym (is_shift p 0 s)) (here o) some
  where
    here : (o : Option Thing) → IsSome (both instance_of o (Some (ASubst (shift_by 0)))) → o ≡ both instance_of o (Some (ASubst (shift_by 0)))
    here (Some (ATree t)) some = ap (λ u. Some (ATree u)) (sym (apply-id t))
    here None some = cc
    here (Some (ASubst d)) some = cc
    here (Some (AContext G)) some = cc

-- what an instance is of
instance_parts : (o p : Option Thing) → IsSome (both instance_of o p) → (t : Tree) × (d : Subst) × (o ≡ Some (ATree t)) × (p ≡ Some (ASubst d))
instance_parts (Some (ATree t)) (Some (ASubst d)) some = (t, d, refl, refl)
instance_parts None p some = cc
instance_parts (Some x) None some = cc
instance_parts (Some (ATree t)) (Some (ATree u)) some = cc
instance_parts (Some (ATree t)) (Some (AContext G)) some = cc
instance_parts (Some (ASubst d)) (Some y) some = cc
instance_parts (Some (AContext G)) (Some y) some = cc

-- a tree under a substitution, under one that undoes it
pub undoes : (tree first whole second : Option Thing) → whole ≡ both instance_of tree first → IsSome (both instance_of whole second) → both then_of first second ≡ Some (ASubst (shift_by 0)) → tree ≡ both instance_of whole second
undoes tree first whole second is some undone =
    let outer = instance_parts whole second some in
    let inner = instance_parts tree first (subst IsSome (sym (sym is ∙ outer.2)) refl) in
    let same : then inner.1 outer.1 ≡ shift_by 0 = cc (ap₂ (both then_of) (sym inner.3) (sym outer.3)) in
    inner.2
    ∙ ap (λ u. Some (ATree u)) (sym (apply-id inner.0) ∙ ap (apply inner.0) (sym same) ∙ apply-then inner.0 inner.1 outer.1)
    ∙ sym (ap₂ (both instance_of) (is ∙ ap₂ (both instance_of) inner.2 inner.3) outer.3)

-- a variable past the trees that are pushed
entry_past : (ts : Trees) (s k : ℕ) → count_of ts ≤ k → entry ts s k ≡ Var (k - count_of ts + s)
entry_past NoTrees s k l = ap Var (omega arith)
entry_past (More t rest) s zero l = absurd (omega arith)
entry_past (More t rest) s (suc k) l = entry_past rest s k (omega arith) ∙ ap Var (let e : k - count_of rest + s ≡ suc k - suc (count_of rest) + s = omega arith in e)

pub passes : (o p : Option Thing) (k pushed shift by : ℕ) → o ≡ Some (ATree (Var k)) → IsSized p pushed shift → pushed ≤ k → by ≡ k - pushed + shift → both instance_of o p ≡ Some (ATree (Var by))
passes o p k pushed shift by is s l e =
    ap₂ (both instance_of) is s.is
    ∙ ap (λ t. Some (ATree t)) (entry_past s.sub.pushed s.sub.shift k (let c = s.count in omega arith))
    ∙ ap (λ j. Some (ATree (Var j))) (let c = s.count in let b = s.by in omega arith)
