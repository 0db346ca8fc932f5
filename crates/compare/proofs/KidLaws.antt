-- The kids of one operator on both sides of a pair.
use Rattle.std.proofs.Common.{◌≡◌, ℕ, zero, suc, ◌+◌, ◌<◌, ◌≤◌, List, [], ◌∷◌, ◌++◌, length, take, map, get_or, refl, sym, ◌∙◌, ap, ap₂, arith, Option, Some, None, append_assoc}
use Rattle.std.specs.Prelude.{slice_get, option_and_then}
use Rattle.std.specs.List.{All, Contains}
use Rattle.std.proofs.lemmas.List.{append-nil, length-map}
use Rattle.std.proofs.lemmas.List.Elements.{All-nil, All-push, All-head, All-tail, Contains-append_left, Contains-push}
use Rattle.trees.specs.declared.op.Op.{Op}
use Rattle.trees.specs.Operators.{binds_of, kids_of}
use Rattle.trees.specs.Trees.{Tree, Var, Make, trees_of}
use Rattle.trees.specs.Things.{Thing, ATree, ASubst, AContext, Meanings, consed, only_trees, over_kids, made}
use Rattle.closures.specs.Environments.{Waiting, deepened}
use Rattle.closures.specs.Closures.{under, delays, closure_meaning, kid_things, all_there}
use Rattle.rows.proofs.OptionLaws.{one-some, both-some}
use Rattle.rows.proofs.MeaningLaws.{over_kids-is}
use Rattle.rows.specs.Views.{IsTree}
use Rattle.closures.proofs.HeadLaws.{kid_things-trees}
use Rattle.compare.specs.Pairs.{Agrees, Adds, IsOne, IsThere, IsNew, Opens, size, sizes, size_of, pair_size, total}
use Rattle.compare.specs.Kids.{sum_of_sizes, KidsOpen}
use Rattle.compare.specs.declared.pairs.Pair.{Pair}

-- kids that mean trees

there-each : (os : List (Option Thing)) (xs : List Thing) → all_there os ≡ Some xs → os ≡ map Some xs
there-each [] xs e = let p : [] ≡ xs = cc in ap (map Some) p
there-each (o ∷ os) xs e =
    let b = both-some consed o (all_there os) xs e in
    let p : b.first ∷ b.second ≡ xs = cc (b.whole) in
    ap₂ ◌∷◌ b.first_is (there-each os b.second b.second_is) ∙ ap (map Some) p

only-all : (xs : List Thing) (ts : List Tree) → only_trees xs ≡ Some ts → xs ≡ map ATree ts
only-all [] ts e = let p : [] ≡ ts = cc in ap (map ATree) p
only-all (ATree t ∷ xs) ts e = from (only_trees xs) refl e (only-all xs)
  where
    from : (r : Option (List Tree)) → only_trees xs ≡ r → option_and_then (λ us. Some (t ∷ us)) r ≡ Some ts → ((us : List Tree) → only_trees xs ≡ Some us → xs ≡ map ATree us) → ATree t ∷ xs ≡ map ATree ts
    from None er e below = cc
    from (Some us) er e below = let p : t ∷ us ≡ ts = cc in ap (λ ys. ATree t ∷ ys) (below us er) ∙ ap (map ATree) p
only-all (ASubst d ∷ xs) ts e = cc
only-all (AContext G ∷ xs) ts e = cc

trees_of-same : (ts us : List Tree) → trees_of ts ≡ trees_of us → ts ≡ us
trees_of-same [] [] e = refl
trees_of-same [] (u ∷ us) e = cc
trees_of-same (t ∷ ts) [] e = cc
trees_of-same (t ∷ ts) (u ∷ us) e = let p : t ≡ u = cc in let q : trees_of ts ≡ trees_of us = cc in ap₂ ◌∷◌ p (trees_of-same ts us q)

-- what an operator over kids is that means a tree
pub record MadeOfKids (f : Meanings) (ws : List Waiting) (op : Op) (ks : List ℕ) (t : Tree) : Type 0 where
  pub trees : List Tree
  pub things : kid_things f ws op 0 ks ≡ map Some (map ATree trees)
  pub whole : t ≡ Make op (trees_of trees)
  pub rows : All (λ k. IsTree (f k)) ks
  pub count : length ks ≡ kids_of op

pub kid_things-length : (f : Meanings) (ws : List Waiting) (op : Op) (at : ℕ) (ks : List ℕ) → length (kid_things f ws op at ks) ≡ length ks
kid_things-length f ws op at [] = refl
kid_things-length f ws op at (k ∷ ks) = ap suc (kid_things-length f ws op (suc at) ks)

pub made_of_kids : (f : Meanings) (ws : List Waiting) (op : Op) (ks : List ℕ) (t : Tree) → option_and_then (made op) (all_there (kid_things f ws op 0 ks)) ≡ Some (ATree t) → MadeOfKids f ws op ks t
made_of_kids f ws op ks t e =
    let m = one-some (made op) (all_there (kid_things f ws op 0 ks)) (ATree t) e in
    let o = one-some (over_kids op) (only_trees m.first) (ATree t) m.whole in
    let over = over_kids-is op o.first (ATree t) o.whole in
    let things = there-each (kid_things f ws op 0 ks) m.first m.first_is ∙ ap (map Some) (only-all m.first o.first o.first_is) in
    record {
      trees = o.first;
      things = things;
      whole = cc (over.1);
      rows = kid_things-trees f ws op 0 ks m.first m.first_is;
      count = sym (kid_things-length f ws op 0 ks) ∙ ap length things ∙ length-map (map ATree o.first) Some ∙ length-map o.first ATree ∙ over.0;
    }

sum-trees : (ts : List Tree) → sum_of_sizes (map Some (map ATree ts)) ≡ sizes (trees_of ts)
sum-trees [] = refl
sum-trees (t ∷ ts) = ap (λ n. size t + n) (sum-trees ts)

things-same : (ts us : List Tree) → map Some (map ATree ts) ≡ map Some (map ATree us) → ts ≡ us
things-same [] [] e = refl
things-same [] (u ∷ us) e = cc
things-same (t ∷ ts) [] e = cc
things-same (t ∷ ts) (u ∷ us) e =
    let p : t ≡ u = cc in
    let q : map Some (map ATree ts) ≡ map Some (map ATree us) = cc in
    ap₂ ◌∷◌ p (things-same ts us q)

-- a pair of one operator on both sides
pub record BothKids (f : Meanings) (known : List (List Waiting)) (p : Pair) (lefts rights : List (Option Thing)) : Type 0 where
  pub size_is : pair_size f known p ≡ sum_of_sizes lefts + 1
  pub split : Agrees f known p → lefts ≡ rights
  pub join : lefts ≡ rights → Agrees f known p

pub both_kids : (f : Meanings) (known : List (List Waiting)) (p : Pair) (op : Op) (vs ws : List Waiting) (ks ls : List ℕ) (t u : Tree)
    → closure_meaning f known p.left ≡ Some (ATree t) → closure_meaning f known p.right ≡ Some (ATree u)
    → MadeOfKids f vs op ks t → MadeOfKids f ws op ls u → BothKids f known p (kid_things f vs op 0 ks) (kid_things f ws op 0 ls)
both_kids f known p op vs ws ks ls t u el er m n = record {
  size_is = ap size_of el ∙ ap size m.whole ∙ ap (λ k. k + 1) (sym (sum-trees m.trees) ∙ ap sum_of_sizes (sym m.things));
  split = λ a.
      let e : Some (ATree (Make op (trees_of m.trees))) ≡ Some (ATree (Make op (trees_of n.trees))) = ap (λ x. Some (ATree x)) (sym m.whole) ∙ sym el ∙ a ∙ er ∙ ap (λ x. Some (ATree x)) n.whole in
      let s : trees_of m.trees ≡ trees_of n.trees = cc in
      m.things ∙ ap (λ ts. map Some (map ATree ts)) (trees_of-same m.trees n.trees s) ∙ sym n.things;
  join = λ e.
      let s = things-same m.trees n.trees (sym m.things ∙ e ∙ n.things) in
      el ∙ ap (λ x. Some (ATree x)) (m.whole ∙ ap (λ ts. Make op (trees_of ts)) s ∙ sym n.whole) ∙ sym er;
}

-- trees of different operators differ
pub other_operator : (f : Meanings) (vs ws : List Waiting) (op other : Op) (ks ls : List ℕ) (t u : Tree) → MadeOfKids f vs op ks t → MadeOfKids f ws other ls u → t ≡ u → op ≡ other
other_operator f vs ws op other ks ls t u m n e =
    let w : Make op (trees_of m.trees) ≡ Make other (trees_of n.trees) = sym m.whole ∙ e ∙ n.whole in
    cc

pub no_variable : (f : Meanings) (ws : List Waiting) (op : Op) (ks : List ℕ) (t : Tree) (k : ℕ) → MadeOfKids f ws op ks t → Var k ≡ t → ⊥
no_variable f ws op ks t k m e = let w : Var k ≡ Make op (trees_of m.trees) = e ∙ m.whole in cc

-- one kid more

total-append : (f : Meanings) (known : List (List Waiting)) (ps qs : List Pair) → total f known (ps ++ qs) ≡ total f known ps + total f known qs
total-append f known [] qs = omega arith
total-append f known (p ∷ ps) qs = let h = total-append f known ps qs in omega arith

sum-append : (xs ys : List (Option Thing)) → sum_of_sizes (xs ++ ys) ≡ sum_of_sizes xs + sum_of_sizes ys
sum-append [] ys = omega arith
sum-append (x ∷ xs) ys = let h = sum-append xs ys in omega arith

pub push-same : {X : Type 0} (xs ys : List X) (x y : X) → xs ++ x ∷ [] ≡ ys ++ y ∷ [] → (xs ≡ ys) × (x ≡ y)
push-same [] [] x y e = let p : x ≡ y = cc in (refl, p)
push-same [] (z ∷ []) x y e = cc
push-same [] (z ∷ w ∷ ys) x y e = cc
push-same (z ∷ []) [] x y e = cc
push-same (z ∷ w ∷ xs) [] x y e = cc
push-same (z ∷ xs) (w ∷ ys) x y e =
    let p : z ≡ w = cc in
    let h = push-same xs ys x y cc in
    (ap₂ ◌∷◌ p h.0, h.1)

pub kids-none : (f : Meanings) (known : List (List Waiting)) (pairs : List Pair) → KidsOpen f known [] [] pairs pairs
kids-none f known pairs = record { more = []; grown = sym (append-nil pairs); forth = λ e. All-nil (Agrees f known); back = λ n le smaller. refl; less = omega arith }

module _ (f : Meanings) (known : List (List Waiting)) (lefts rights : List (Option Thing)) (x y : Option Thing) (p : Pair)
    (left : closure_meaning f known p.left ≡ x) (right : closure_meaning f known p.right ≡ y) where
  abbrev ls : List (Option Thing)
  ls = lefts ++ x ∷ []

  abbrev rs : List (Option Thing)
  rs = rights ++ y ∷ []

  -- the pair agrees where it stands among pairs that agree, or is of one closure
  kids-after : (old cur new : List Pair) → KidsOpen f known lefts rights old cur → ((n : ℕ) → sum_of_sizes ls ≤ n → ((q : Pair) → Contains new q → pair_size f known q ≤ n → Agrees f known q) → x ≡ y) → ((q : Pair) → Contains cur q → Contains new q)
      → (n : ℕ) → sum_of_sizes ls ≤ n → ((q : Pair) → Contains new q → pair_size f known q ≤ n → Agrees f known q) → ls ≡ rs
  kids-after old cur new k last within n le smaller =
      let s = sum-append lefts (x ∷ []) in
      ap₂ (λ zs b. zs ++ b ∷ []) (k.back n (omega arith) (λ q c. smaller q (within q c))) (last n le smaller)

  fits : (n : ℕ) → sum_of_sizes ls ≤ n → pair_size f known p ≤ n
  fits n le = let s = sum-append lefts (x ∷ []) in let e : pair_size f known p ≡ size_of x = ap size_of left in omega arith

  pub kids-more : (old cur new : List Pair) → KidsOpen f known lefts rights old cur → Adds p cur new → KidsOpen f known ls rs old new
  kids-more old cur new k (IsOne same e) =
      let s = sum-append lefts (x ∷ []) in
      let l = k.less in
      record {
        more = k.more;
        grown = e ∙ k.grown;
        forth = λ h. k.forth (push-same lefts rights x y h).0;
        back = kids-after old cur new k (λ n le smaller. sym left ∙ ap (closure_meaning f known) same ∙ right) (λ q c. rw e c);
        less = omega arith;
      }
  kids-more old cur new k (IsThere there e) =
      let s = sum-append lefts (x ∷ []) in
      let l = k.less in
      record {
        more = k.more;
        grown = e ∙ k.grown;
        forth = λ h. k.forth (push-same lefts rights x y h).0;
        back = kids-after old cur new k (λ n le smaller. sym left ∙ smaller p (rw e there) (fits n le) ∙ right) (λ q c. rw e c);
        less = omega arith;
      }
  kids-more old cur new k (IsNew e) =
      let s = sum-append lefts (x ∷ []) in
      let t = total-append f known k.more (p ∷ []) in
      let z : pair_size f known p ≡ size_of x = ap size_of left in
      let l = k.less in
      record {
        more = k.more ++ p ∷ [];
        grown = e ∙ ap (λ ps. ps ++ p ∷ []) k.grown ∙ append_assoc old k.more (p ∷ []);
        forth = λ h. let g = push-same lefts rights x y h in All-push (Agrees f known) k.more p (k.forth g.0) (left ∙ g.1 ∙ sym right);
        back = kids-after old cur new k (λ n le smaller. sym left ∙ smaller p (rw e (Contains-push cur p)) (fits n le) ∙ right) (λ q c. rw e (Contains-append_left cur (p ∷ []) q c));
        less = omega arith;
      }

-- all kids compared, the pair is opened
pub opens-kids : (f : Meanings) (known : List (List Waiting)) (p : Pair) (lefts rights : List (Option Thing)) (old new : List Pair) → BothKids f known p lefts rights → KidsOpen f known lefts rights old new → Opens f known p old new
opens-kids f known p lefts rights old new b k =
    let z = b.size_is in
    let l = k.less in
    record {
      more = k.more;
      grown = k.grown;
      forth = λ a. k.forth (b.split a);
      back = λ smaller. b.join (k.back (sum_of_sizes lefts) (omega arith) (λ q c le. smaller q c (omega arith)));
      less = omega arith;
    }

-- the kid at a place
kid_things-from : (f : Meanings) (ws : List Waiting) (op : Op) (from j at : ℕ) (ks : List ℕ) (k : ℕ) → at ≡ from + j → slice_get ks j ≡ Some k → slice_get (kid_things f ws op from ks) j ≡ Some (under (f k) (delays f (deepened (binds_of op at) ws)))
kid_things-from f ws op from j at [] k e here = cc
kid_things-from f ws op from zero at (l ∷ ks) k e here = let s : l ≡ k = cc in let place : from ≡ at = omega arith in rw (s, place) refl
kid_things-from f ws op from (suc j) at (l ∷ ks) k e here = kid_things-from f ws op (suc from) j at ks k (omega arith) here

pub kid_things-at : (f : Meanings) (ws : List Waiting) (op : Op) (at : ℕ) (ks : List ℕ) (k : ℕ) → slice_get ks at ≡ Some k → slice_get (kid_things f ws op 0 ks) at ≡ Some (under (f k) (delays f (deepened (binds_of op at) ws)))
kid_things-at f ws op at ks k here = kid_things-from f ws op 0 at at ks k (omega arith) here

pub take-more : {X : Type 0} (xs : List X) (at : ℕ) (x : X) → slice_get xs at ≡ Some x → take (at + 1) xs ≡ take at xs ++ x ∷ []
take-more [] at x e = cc
take-more (y ∷ xs) zero x e = let s : y ≡ x = cc in rw s refl
take-more (y ∷ xs) (suc at) x e = let h : suc at + 1 ≡ suc (at + 1) = omega arith in rw h (ap (λ zs. y ∷ zs) (take-more xs at x e))

-- the row of a kid, read at its place
pub place-of : (ks : List ℕ) (at k : ℕ) → at < length ks → k ≡ get_or ks at 0 → slice_get ks at ≡ Some k
place-of [] at k lt e = absurd (omega arith)
place-of (j ∷ ks) zero k lt e = ap Some (sym e)
place-of (j ∷ ks) (suc at) k lt e = place-of ks at k (omega arith) e

pub All-at : {X : Type 0} (Q : X → Type 0) (xs : List X) (at : ℕ) (x : X) → slice_get xs at ≡ Some x → All Q xs → Q x
All-at Q [] at x e all = cc
All-at Q (y ∷ xs) zero x e all = let s : y ≡ x = cc in rw (← s) (All-head Q y xs all)
All-at Q (y ∷ xs) (suc at) x e all = All-at Q xs at x e (All-tail Q y xs all)
