-- Substitutions of a file as their trees and shift are read, and as two are written out.
use Rattle.std.proofs.Common.{◌≡◌, ℕ, zero, suc, ◌+◌, ◌<◌, ◌≤◌, List, [], ◌∷◌, ◌++◌, length, refl, sym, ◌∙◌, ap, ap₂, subst, arith, Option, Some, None, append_assoc}
use Rattle.std.specs.Prelude.{slice_index_or, IsSome}
use Rattle.std.proofs.lemmas.List.{append-nil}
use Rattle.trees.specs.Trees.{Tree, Trees, NoTrees, More, Subst, apply, shift_by, push, without, then_from, greatest_shift}
use Rattle.trees.specs.Things.{Thing, ATree, ASubst, AContext, Meanings, Kept, both, instance_of, pushed_on, then_of}
use Rattle.trees.proofs.Meanings.{kept-kept}
use Rattle.deriv_file.specs.declared.row.Row.{Row}
use Rattle.rows.specs.Views.{ShiftAtMost}
use Rattle.book_writer.specs.Means.{lines_mean, IsFile}
use Rattle.book_writer.specs.Pushed.{MeanTrees, ArePushed, PushedAt, dropped}
use Rattle.book_writer.proofs.SubLaws.{lines-fit}

-- the trees that were read are the first that d pushes, and the row is what is left of it
pub record Walk (f : Meanings) (ks : List ℕ) (at : ℕ) (d : Subst) : Type 0 where
  pub rest : Subst
  pub is : f at ≡ Some (ASubst rest)
  pub shift : rest.shift ≡ d.shift
  pub done : (js : List ℕ) → MeanTrees f js rest.pushed → MeanTrees f (ks ++ js) d.pushed

pub walk-none : (f : Meanings) (at : ℕ) (d : Subst) → f at ≡ Some (ASubst d) → Walk f [] at d
walk-none f at d e = record { rest = d; is = e; shift = refl; done = λ js m. m }

pub walk-on : (rows : List Row) (ks : List ℕ) (at s t : ℕ) (d : Subst) → (w : Walk (lines_mean rows) ks at d) → PushedAt rows at s t w.rest → Walk (lines_mean rows) (ks ++ t ∷ []) s d
walk-on rows ks at s t d w p =
    let f = lines_mean rows in
    let whole = p.whole in
    record {
      rest = p.sub;
      is = p.sub_is;
      shift = ap (λ (e : Subst). e.shift) (sym whole) ∙ w.shift;
      done = λ js m. subst (λ is. MeanTrees f is d.pushed) (sym (append_assoc ks (t ∷ []) js)) (w.done (t ∷ js) (subst (λ (e : Subst). MeanTrees f (t ∷ js) e.pushed) (sym whole) (p.tree_is, m)));
    }

pub walk-end : (f : Meanings) (ks : List ℕ) (at n : ℕ) (d : Subst) → (w : Walk f ks at d) → w.rest ≡ shift_by n → ArePushed f ks n d
walk-end f ks at n d w e = record {
  trees_are = subst (λ is. MeanTrees f is d.pushed) (append-nil ks) (w.done [] (subst (λ (r : Subst). MeanTrees f [] r.pushed) (sym e) tt));
  shift_is = sym w.shift ∙ ap (λ (r : Subst). r.shift) e;
}

-- what is left of d where so many trees are passed and `left` more are to be
pub record Passed (f : Meanings) (at left : ℕ) (d : Subst) (count : ℕ) : Type 0 where
  pub rest : Subst
  pub is : f at ≡ Some (ASubst rest)
  pub same : without left rest.pushed rest.shift ≡ without count d.pushed d.shift

pub passed-none : (f : Meanings) (at : ℕ) (d : Subst) (count : ℕ) → f at ≡ Some (ASubst d) → Passed f at count d count
passed-none f at d count e = record { rest = d; is = e; same = refl }

pub passed-on : (rows : List Row) (at s t left next : ℕ) (d : Subst) (count : ℕ) → (w : Passed (lines_mean rows) at left d count) → PushedAt rows at s t w.rest → left ≡ suc next → Passed (lines_mean rows) s next d count
passed-on rows at s t left next d count w p more = record {
  rest = p.sub;
  is = p.sub_is;
  same = sym (ap₂ (λ n (e : Subst). without n e.pushed e.shift) more p.whole) ∙ w.same;
}

without-none : (ts : Trees) (n : ℕ) → without 0 ts n ≡ record { pushed = ts; shift = n }
without-none NoTrees n = ap (λ m. record { pushed = NoTrees; shift = m }) (omega arith)
without-none (More t rest) n = refl

pub passed-end : (f : Meanings) (at left : ℕ) (d : Subst) (count : ℕ) → Passed f at left d count → left ≡ 0 → f at ≡ Some (ASubst (without count d.pushed d.shift))
passed-end f at left d count w none =
    w.is ∙ ap (λ e. Some (ASubst e)) (sym (without-none w.rest.pushed w.rest.shift) ∙ ap (λ n. without n w.rest.pushed w.rest.shift) (sym none) ∙ w.same)

pub passed-shift : (f : Meanings) (at left n : ℕ) (d : Subst) (count : ℕ) → (w : Passed f at left d count) → w.rest ≡ shift_by n → shift_by (n + left) ≡ without count d.pushed d.shift
passed-shift f at left n d count w e = from left n ∙ ap (λ (r : Subst). without left r.pushed r.shift) (sym e) ∙ w.same
  where
    from : (left n : ℕ) → shift_by (n + left) ≡ without left NoTrees n
    from zero n = refl
    from (suc left) n = refl

-- a substitution after another, written out from its last trees on

pub trees-kept : (f g : Meanings) → Kept f g → (ks : List ℕ) (ts : Trees) → MeanTrees f ks ts → MeanTrees g ks ts
trees-kept f g kept [] NoTrees m = tt
trees-kept f g kept [] (More t rest) m = absurd m
trees-kept f g kept (k ∷ ks) NoTrees m = absurd m
trees-kept f g kept (k ∷ ks) (More t rest) m = (kept.keeps k (ATree t) m.0, trees-kept f g kept ks rest m.1)

pub dropped-all : (f : Meanings) (ks : List ℕ) (ts : Trees) → MeanTrees f ks ts → dropped (length ks) ts ≡ NoTrees
dropped-all f [] NoTrees m = refl
dropped-all f [] (More t rest) m = absurd m
dropped-all f (k ∷ ks) NoTrees m = absurd m
dropped-all f (k ∷ ks) (More t rest) m = dropped-all f ks rest m.1

-- the tree at a place
pub record TreeAt (f : Meanings) (k n : ℕ) (ts : Trees) : Type 0 where
  pub tree : Tree
  pub is : f k ≡ Some (ATree tree)
  pub whole : dropped n ts ≡ More tree (dropped (suc n) ts)

pub tree-at : (f : Meanings) (ks : List ℕ) (ts : Trees) → MeanTrees f ks ts → (n d : ℕ) → n < length ks → TreeAt f (slice_index_or ks n d) n ts
tree-at f [] ts m n d lt = absurd (omega arith)
tree-at f (k ∷ ks) NoTrees m n d lt = absurd m
tree-at f (k ∷ ks) (More t rest) m zero d lt = record { tree = t; is = m.0; whole = refl }
tree-at f (k ∷ ks) (More t rest) m (suc n) d lt =
    let a = tree-at f ks rest m.1 n d (omega arith) in
    record { tree = a.tree; is = a.is; whole = a.whole }

pub then-step : (t : Tree) (n : ℕ) (ts : Trees) (shift : ℕ) (e : Subst) → dropped n ts ≡ More t (dropped (suc n) ts) → push (then_from (dropped (suc n) ts) shift e) (apply t e) ≡ then_from (dropped n ts) shift e
then-step t n ts shift e whole = sym (ap (λ us. then_from us shift e) whole)

-- two substitutions, one after the other
pub record Two (o p : Option Thing) : Type 0 where
  pub first : Subst
  pub second : Subst
  pub first_is : o ≡ Some (ASubst first)
  pub second_is : p ≡ Some (ASubst second)

pub two-there : (o p : Option Thing) → IsSome (both then_of o p) → Two o p
two-there None p some = cc
two-there (Some (ATree t)) None some = cc
two-there (Some (ASubst d)) None some = cc
two-there (Some (AContext G)) None some = cc
two-there (Some (ASubst d)) (Some (ASubst e)) some = record { first = d; second = e; first_is = refl; second_is = refl }
two-there (Some _) (Some _) some = cc

-- so many trees are still to be pushed
pub record Left (f g : Meanings) (ks : List ℕ) (left sub first second : ℕ) : Type 0 where
  pub d : Subst
  pub e : Subst
  pub first_is : f first ≡ Some (ASubst d)
  pub second_is : f second ≡ Some (ASubst e)
  pub few : left ≤ length ks
  pub kept : Kept f g
  pub trees_are : MeanTrees g ks d.pushed
  pub is : g sub ≡ Some (ASubst (then_from (dropped left d.pushed) d.shift e))

pub left-all : (f g : Meanings) (ks : List ℕ) (n left sub first second : ℕ) → Kept f g → left ≡ length ks → (t : Two (f first) (f second)) → ArePushed f ks n t.first → g sub ≡ Some (ASubst (without n t.second.pushed t.second.shift)) → Left f g ks left sub first second
left-all f g ks n left sub first second kept all t p is =
    let none : dropped left t.first.pushed ≡ NoTrees = ap (λ m. dropped m t.first.pushed) all ∙ dropped-all f ks t.first.pushed p.trees_are in
    record {
      d = t.first;
      e = t.second;
      first_is = t.first_is;
      second_is = t.second_is;
      few = omega arith;
      kept = kept;
      trees_are = trees-kept f g kept ks t.first.pushed p.trees_are;
      is = is ∙ ap₂ (λ m ts. Some (ASubst (then_from ts m t.second))) (sym p.shift_is) (sym none);
    }

-- the tree that is next, and what it becomes
module _ (f g : Meanings) (ks : List ℕ) (left sub first second : ℕ) (l : Left f g ks left sub first second) (n k : ℕ) (more : left ≡ suc n) (at : k ≡ slice_index_or ks n k) where
  pub next-tree : TreeAt g k n l.d.pushed
  next-tree =
      let few = l.few in
      subst (λ i. TreeAt g i n l.d.pushed) (sym at) (tree-at g ks l.d.pushed l.trees_are n k (omega arith))

  pub next-second : g second ≡ Some (ASubst l.e)
  next-second = l.kept.keeps second (ASubst l.e) l.second_is

  pub next-instance : both instance_of (g k) (g second) ≡ Some (ATree (apply next-tree.tree l.e))
  next-instance = ap₂ (both instance_of) next-tree.is next-second

  module _ (h : Meanings) (later : Kept g h) (under : ℕ) (under_is : h under ≡ both instance_of (g k) (g second)) where
    pub next-push : both pushed_on (h sub) (h under) ≡ Some (ASubst (then_from (dropped n l.d.pushed) l.d.shift l.e))
    next-push =
        let here : g sub ≡ Some (ASubst (then_from (dropped (suc n) l.d.pushed) l.d.shift l.e)) = l.is ∙ ap (λ m. Some (ASubst (then_from (dropped m l.d.pushed) l.d.shift l.e))) more in
        ap₂ (both pushed_on) (later.keeps sub _ here) (under_is ∙ next-instance)
        ∙ ap (λ s. Some (ASubst s)) (then-step next-tree.tree n l.d.pushed l.d.shift l.e next-tree.whole)

    pub left-on : (i : Meanings) → Kept h i → (new : ℕ) → i new ≡ both pushed_on (h sub) (h under) → Left f i ks n new first second
    left-on i last new new_is = record {
      d = l.d;
      e = l.e;
      first_is = l.first_is;
      second_is = l.second_is;
      few = let few = l.few in omega arith;
      kept = kept-kept f h i (kept-kept f g h l.kept later) last;
      trees_are = trees-kept h i last ks l.d.pushed (trees-kept g h later ks l.d.pushed l.trees_are);
      is = new_is ∙ next-push;
    }

pub left-none : (f g : Meanings) (ks : List ℕ) (left sub first second : ℕ) → Left f g ks left sub first second → left ≡ 0 → g sub ≡ both then_of (f first) (f second)
left-none f g ks left sub first second l none =
    l.is ∙ ap (λ m. Some (ASubst (then_from (dropped m l.d.pushed) l.d.shift l.e))) none ∙ sym (ap₂ (both then_of) l.first_is l.second_is)

-- the shifts of two substitutions of a file
module _ (rows : List Row) (h : IsFile rows) (j k : ℕ) (some : IsSome (both then_of (lines_mean rows j) (lines_mean rows k))) where
  pub first-fits : ShiftAtMost greatest_shift (lines_mean rows j)
  first-fits =
      let t = two-there (lines_mean rows j) (lines_mean rows k) some in
      let is = t.first_is in
      rw is (lines-fit rows h j t.first is)

  pub second-fits : ShiftAtMost greatest_shift (lines_mean rows k)
  second-fits =
      let t = two-there (lines_mean rows j) (lines_mean rows k) some in
      let is = t.second_is in
      rw is (lines-fit rows h k t.second is)
