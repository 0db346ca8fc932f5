-- What a closure opens to: what it means, what it names and what it weighs.
use Rattle.std.proofs.Common.{◌≡◌, ℕ, suc, ◌+◌, ◌≤◌, List, [], ◌∷◌, length, length-append, refl, sym, ◌∙◌, ap, subst, arith, Option, Some, None}
use Rattle.std.specs.Prelude.{option_and_then}
use Rattle.std.specs.List.{All}
use Rattle.std.proofs.lemmas.List.Elements.{All-nil, All-cons, All-weaker}
use Rattle.trees.specs.declared.op.Op.{Op}
use Rattle.trees.specs.Operators.{binds_of}
use Rattle.trees.specs.Trees.{Tree, Subst, Var, Make, trees_of, apply}
use Rattle.trees.specs.Things.{Thing, ATree, ASubst, AContext, Meanings, both, consed, over_kids, meanings, only_trees, made, instance_of}
use Rattle.trees.proofs.Meanings.{meanings-cons}
use Rattle.substitution.specs.Delayed.{Delayed as UnderBinders, at_depth, closed, deeper, closed_kids}
use Rattle.substitution.proofs.Closures.{closed-make}
use Rattle.closures.specs.declared.environments.Delayed.TheVariants.{Under}
use Rattle.closures.specs.declared.environments.Environment.{Environment}
use Rattle.closures.specs.declared.environments.Environment.TheVariants as env
use Rattle.closures.specs.declared.closure.Closure.{Closure}
use Rattle.closures.specs.declared.variables.Found.{Found}
use Rattle.closures.specs.declared.variables.Found.TheVariants as found
use Rattle.rows.specs.Views.{IsTree, IsSubst}
use Rattle.closures.specs.Environments.{Waiting, waiting, deepened, listed, IsWithin}
use Rattle.closures.specs.Waits.{WaitsFor}
use Rattle.closures.specs.Closures.{delays, delayed_subst, subst_of, under, kid_things, all_there, IsDelayed, Stands, StandsUnder, IsClosure, FoundStands, closure_meaning, variable_meaning, found_meaning}
use Rattle.closures.specs.Weights.{row_weight}
use Rattle.rows.specs.Tables.{Grows}
use Rattle.rows.specs.declared.views.TermId.{TermId}
use Rattle.rows.specs.declared.views.SubId.{SubId}
use Rattle.rows.proofs.OptionLaws.{both-some, one-some}
use Rattle.rows.proofs.MeaningLaws.{over_kids-is, over_kids-there}
use Rattle.rows.proofs.TableLaws.{grows-same, grows-grows}
use Rattle.closures.proofs.EnvironmentLaws.{listed-grows, is_before-more}
use Rattle.closures.proofs.VariableLaws.{stands-past}

-- what an instance opens to: its tree, before which its substitution waits
pub record Opened (f : Meanings) (o : Option Thing) (t : TermId) (s : SubId) (ws : List Waiting) : Type 0 where
  pub tree : IsTree (f t.0)
  pub subst : IsSubst (f s.0)
  pub meaning : under (f t.0) (delays f (waiting 0 (Under s) ∷ ws)) ≡ under o (delays f ws)

instance-parts : (a b : Thing) (t : Tree) → instance_of a b ≡ Some (ATree t) → (u : Tree) × (d : Subst) × (a ≡ ATree u) × (b ≡ ASubst d) × (t ≡ apply u d)
instance-parts (ATree u) (ASubst d) t e = let same : apply u d ≡ t = cc in (u, d, refl, refl, sym same)
instance-parts _ _ t e = cc

open_by : (o x y : Option Thing) (u : Tree) (d : Subst) (t : Tree) (env : List UnderBinders) → x ≡ Some (ATree u) → y ≡ Some (ASubst d) → o ≡ Some (ATree t) → t ≡ apply u d → under x (at_depth 0 (subst_of y) ∷ env) ≡ under o env
open_by o x y u d t env tree substitution whole is = rw (tree, substitution, whole, is) refl

pub instance-opens : (f : Meanings) (o : Option Thing) (t : TermId) (s : SubId) (ws : List Waiting) → IsTree o → o ≡ both instance_of (f t.0) (f s.0) → Opened f o t s ws
instance-opens f o t s ws is e =
    let b = both-some instance_of (f t.0) (f s.0) (ATree is.0) (sym e ∙ is.1) in
    let p = instance-parts b.first b.second is.0 b.whole in
    let tree : f t.0 ≡ Some (ATree p.0) = b.first_is ∙ ap Some p.2 in
    let substitution : f s.0 ≡ Some (ASubst p.1) = b.second_is ∙ ap Some p.3 in
    record {
      tree = (p.0, tree);
      subst = (p.1, substitution);
      meaning = open_by o (f t.0) (f s.0) p.0 p.1 is.0 (delays f ws) tree substitution is.1 p.4;
    }

-- one more substitution waits before the others
pub Stands-push : (f : Meanings) (known new : List (List Waiting)) (n : ℕ) (s : SubId) (environment longer : Environment) → Stands f known n environment → IsSubst (f s.0) → listed new longer ≡ waiting 0 (Under s) ∷ listed known environment → IsWithin new longer → Stands f new n longer
Stands-push f known new n s environment longer stands substitution list within =
    let R : List Waiting → Type 0 = All (λ w. IsDelayed f w.delayed) in
    let D : List Waiting → Type 0 = All (λ w. w.depth ≤ n) in
    record {
      within = within;
      substs = subst R (sym list) (All-cons (λ w. IsDelayed f w.delayed) (waiting 0 (Under s)) (listed known environment) substitution stands.substs);
      shallow = subst D (sym list) (All-cons (λ w. w.depth ≤ n) (waiting 0 (Under s)) (listed known environment) (omega arith) stands.shallow);
    }

delays-deepened : (f : Meanings) (b : ℕ) (ws : List Waiting) → delays f (deepened b ws) ≡ deeper b (delays f ws)
delays-deepened f b [] = refl
delays-deepened f b (w ∷ ws) = ap (λ env. at_depth (w.depth + b) (delayed_subst f w.delayed) ∷ env) (delays-deepened f b ws)

-- what kids mean of which each is a tree
pub record Kids (f : Meanings) (ws : List Waiting) (op : Op) (at : ℕ) (ks : List ℕ) (ts : List Tree) : Type 0 where
  pub things : List Thing
  pub are : all_there (kid_things f ws op at ks) ≡ Some things
  pub trees : List Tree
  pub count : length trees ≡ length ts
  pub all_trees : only_trees things ≡ Some trees
  pub kids : trees_of trees ≡ closed_kids (trees_of ts) op at (delays f ws)

one_more : (t : Tree) (us ts : List Tree) → Some (t ∷ us) ≡ Some ts → ts ≡ t ∷ us
one_more t us ts e = cc

more_closed : (b : ℕ) (op : Op) (at : ℕ) (t : Tree) (ts us vs : List Tree) (env : List UnderBinders) → ts ≡ t ∷ us → trees_of vs ≡ closed_kids (trees_of us) op (suc at) env → b ≡ binds_of op at → trees_of (closed t (deeper b env) ∷ vs) ≡ closed_kids (trees_of ts) op at env
more_closed b op at t ts us vs env whole rest binds = rw (whole, rest, binds) refl

kids-closed : (f : Meanings) (ws : List Waiting) (op : Op) (at : ℕ) (ks : List ℕ) (xs : List Thing) (ts : List Tree) → meanings f ks ≡ Some xs → only_trees xs ≡ Some ts → Kids f ws op at ks ts
kids-closed f ws op at [] xs ts e all =
    let none : xs ≡ [] = cc in
    let no_trees : ts ≡ [] = cc (ap only_trees none) in
    record { things = []; are = refl; trees = []; count = sym (ap length no_trees); all_trees = refl; kids = rw no_trees refl }
kids-closed f ws op at (k ∷ ks) xs ts e all =
    let m = meanings-cons f k ks xs e in
    from m.first m.rest m.first_is m.rest_is (ap only_trees (sym m.whole) ∙ all) (kids-closed f ws op (suc at) ks m.rest)
  where
    from : (x : Thing) (rest : List Thing) → f k ≡ Some x → meanings f ks ≡ Some rest → only_trees (x ∷ rest) ≡ Some ts → ((us : List Tree) → meanings f ks ≡ Some rest → only_trees rest ≡ Some us → Kids f ws op (suc at) ks us) → Kids f ws op at (k ∷ ks) ts
    from (ATree t) rest is rest_is trees later =
        let o = one-some (λ us. Some (t ∷ us)) (only_trees rest) ts trees in
        let h = later o.first rest_is o.first_is in
        let env = delays f ws in
        let deep = delays-deepened f (binds_of op at) ws in
        record {
          things = ATree (closed t (deeper (binds_of op at) env)) ∷ h.things;
          are = rw (is, h.are, deep) refl;
          trees = closed t (deeper (binds_of op at) env) ∷ h.trees;
          count = ap suc h.count ∙ sym (ap length (one_more t o.first ts o.whole));
          all_trees = rw h.all_trees refl;
          kids = more_closed (binds_of op at) op at t ts o.first h.trees env (one_more t o.first ts o.whole) h.kids refl;
        }
    from (ASubst d) rest is rest_is trees later = cc
    from (AContext G) rest is rest_is trees later = cc

-- an operator keeps its head, over the closures of its kids
pub make-opens : (f : Meanings) (o : Option Thing) (ws : List Waiting) (op : Op) (ks : List ℕ) → IsTree o → o ≡ option_and_then (made op) (meanings f ks) → option_and_then (made op) (all_there (kid_things f ws op 0 ks)) ≡ under o (delays f ws)
make-opens f o ws op ks is e =
    let m = one-some (made op) (meanings f ks) (ATree is.0) (sym e ∙ is.1) in
    let t = one-some (over_kids op) (only_trees m.first) (ATree is.0) m.whole in
    let over = over_kids-is op t.first (ATree is.0) t.whole in
    let h = kids-closed f ws op 0 ks m.first t.first m.first_is t.first_is in
    let there = over_kids-there op h.trees (h.count ∙ over.0) in
    let tree : is.0 ≡ Make op (trees_of t.first) = cc (over.1) in
    rw (is.1, tree, h.are, h.all_trees, there, h.kids) (ap (λ u. Some (ATree u)) (sym (closed-make op (trees_of t.first) (delays f ws))))

-- a closure means what the first one does, and stands for whatever depth that did
pub record Follows (f : Meanings) (known : List (List Waiting)) (first : Closure) (new : List (List Waiting)) (c : Closure) : Type 0 where
  pub grows : Grows known new
  pub meaning : closure_meaning f new c ≡ closure_meaning f known first
  pub stands : (n : ℕ) → IsClosure f known n first → IsClosure f new n c

pub follows-same : (f : Meanings) (known : List (List Waiting)) (c : Closure) → Follows f known c known c
follows-same f known c = record { grows = grows-same known; meaning = refl; stands = λ n h. h }

pub follows-follows : (f : Meanings) (old known new : List (List Waiting)) (a b c : Closure) → Follows f old a known b → Follows f known b new c → Follows f old a new c
follows-follows f old known new a b c s t = record {
  grows = grows-grows old known new s.grows t.grows;
  meaning = t.meaning ∙ s.meaning;
  stands = λ n h. t.stands n (s.stands n h);
}

-- a closure whose row is a variable
pub variable-of : (f : Meanings) (known : List (List Waiting)) (c : Closure) (k : ℕ) → f c.row.0 ≡ Some (ATree (Var k)) → variable_meaning f (listed known c.environment) k ≡ closure_meaning f known c
variable-of f known c k is = sym (ap (λ o. under o (delays f (listed known c.environment))) is)

-- it may become a tree
pub tree-follows : (f : Meanings) (known new : List (List Waiting)) (c : Closure) (k : ℕ) (x : Found) (tree : Closure) → f c.row.0 ≡ Some (ATree (Var k)) → x ≡ found.Tree tree → Grows known new → found_meaning f new x ≡ variable_meaning f (listed known c.environment) k → ((n : ℕ) → Stands f known n c.environment → FoundStands f new n x) → Follows f known c new tree
tree-follows f known new c k x tree is becomes grows meaning stands = record {
  grows = grows;
  meaning = ap (found_meaning f new) (sym becomes) ∙ meaning ∙ variable-of f known c k is;
  stands = λ n h. subst (FoundStands f new n) becomes (stands n h.environment);
}

-- a closure whose row is an instance: its tree, where the substitution waits before the others
pub instance-follows : (f : Meanings) (known new : List (List Waiting)) (c : Closure) (t : TermId) (s : SubId) (longer : Environment) → IsTree (f c.row.0) → f c.row.0 ≡ both instance_of (f t.0) (f s.0) → Grows known new → WaitsFor f (subst_of (f s.0)) (row_weight s.0) (listed known c.environment) (listed new longer) → IsWithin new longer → Follows f known c new (record { row = t; environment = longer })
instance-follows f known new c t s longer is meaning grows waits within =
    let o = instance-opens f (f c.row.0) t s (listed known c.environment) is meaning in
    record {
      grows = grows;
      meaning = waits.means (f t.0) ∙ o.meaning;
      stands = λ n h.
          let all = waits.stands n (h.environment.substs, h.environment.shallow) in
          record { row = o.tree; environment = record { within = within; substs = all.0; shallow = all.1 } };
    }

-- what stands for a depth stands for each that is greater
pub stands-deeper : (f : Meanings) (known : List (List Waiting)) (n m : ℕ) (e : Environment) → n ≤ m → Stands f known n e → Stands f known m e
stands-deeper f known n m e le stands = record {
  within = stands.within;
  substs = stands.substs;
  shallow = All-weaker (λ w. w.depth ≤ n) (λ w. w.depth ≤ m) (λ w (h : w.depth ≤ n). omega arith) (listed known e) stands.shallow;
}

pub closure-deeper : (f : Meanings) (known : List (List Waiting)) (n m : ℕ) (c : Closure) → n ≤ m → IsClosure f known n c → IsClosure f known m c
closure-deeper f known n m c le closure = record { row = closure.row; environment = stands-deeper f known n m c.environment le closure.environment }

-- nodes that are added change nothing
pub stands-grows : (f : Meanings) (known new : List (List Waiting)) (n : ℕ) (e : Environment) → Grows known new → Stands f known n e → Stands f new n e
stands-grows f known new n e g stands =
    let same = listed-grows known new e g stands.within in
    let Steps : List Waiting → Type 0 = All (λ w. IsDelayed f w.delayed) in
    let Shallow : List Waiting → Type 0 = All (λ w. w.depth ≤ n) in
    let more : length known ≤ length new = let size : length new ≡ length known + length g.0 = ap length g.1 ∙ length-append known g.0 in omega arith in
    record {
      within = is_before-more (length known) (length new) e more stands.within;
      substs = subst Steps (sym same) stands.substs;
      shallow = subst Shallow (sym same) stands.shallow;
    }

pub closure-grows : (f : Meanings) (known new : List (List Waiting)) (n : ℕ) (c : Closure) → Grows known new → IsClosure f known n c → IsClosure f new n c
closure-grows f known new n c g closure = record { row = closure.row; environment = stands-grows f known new n c.environment g closure.environment }

pub closure_meaning-grows : (f : Meanings) (known new : List (List Waiting)) (c : Closure) → Grows known new → IsWithin known c.environment → closure_meaning f new c ≡ closure_meaning f known c
closure_meaning-grows f known new c g within = ap (λ ws. under (f c.row.0) (delays f ws)) (listed-grows known new c.environment g within)

-- the closure of a kid, deeper by what its place binds
pub kid-stands : (f : Meanings) (known : List (List Waiting)) (n b row : ℕ) (e : Environment) (c : Closure) → IsTree (f row) → Stands f known n e → c.row.0 ≡ row → listed known c.environment ≡ deepened b (listed known e) → IsWithin known c.environment → IsClosure f known (n + b) c
kid-stands f known n b row e c is stands same list within =
    let under_b : StandsUnder f known (n + b) b e = record {
      below = omega arith;
      within = stands.within;
      substs = stands.substs;
      shallow = All-weaker (λ w. w.depth ≤ n) (λ w. w.depth + b ≤ n + b) (λ w (h : w.depth ≤ n). omega arith) (listed known e) stands.shallow;
    } in
    record {
      row = subst (λ k. IsTree (f k)) (sym same) is;
      environment = stands-past f known (n + b) b e c.environment under_b list within;
    }

-- the closure of a row as it is
pub row-stands : (f : Meanings) (known : List (List Waiting)) (n row : ℕ) (c : Closure) → IsTree (f row) → c.row.0 ≡ row → c.environment ≡ env.Empty → IsClosure f known n c
row-stands f known n row c is same none =
    let At : Environment → Type 0 = Stands f known n in
    record {
      row = subst (λ k. IsTree (f k)) (sym same) is;
      environment = subst At (sym none) (record { within = refl; substs = All-nil (λ w. IsDelayed f w.delayed); shallow = All-nil (λ w. w.depth ≤ n) });
    }

-- a thing under substitutions is a tree, which it was before
pub under-tree : (o : Option Thing) (ds : List UnderBinders) (x : Thing) → under o ds ≡ Some x → IsTree o
under-tree None ds x e = cc
under-tree (Some (ATree t)) ds x e = (t, refl)
under-tree (Some (ASubst d)) ds x e = cc
under-tree (Some (AContext G)) ds x e = cc

-- where all kids mean something, each of their rows is that of a tree
pub kid_things-trees : (f : Meanings) (ws : List Waiting) (o : Op) (at : ℕ) (ks : List ℕ) (xs : List Thing) → all_there (kid_things f ws o at ks) ≡ Some xs → All (λ k. IsTree (f k)) ks
kid_things-trees f ws o at [] xs e = All-nil (λ k. IsTree (f k))
kid_things-trees f ws o at (k ∷ ks) xs e =
    let b = both-some consed (under (f k) (delays f (deepened (binds_of o at) ws))) (all_there (kid_things f ws o (suc at) ks)) xs e in
    All-cons (λ k. IsTree (f k)) k ks (under-tree (f k) (delays f (deepened (binds_of o at) ws)) b.first b.first_is) (kid_things-trees f ws o (suc at) ks b.second b.second_is)
