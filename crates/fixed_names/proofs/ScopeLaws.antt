-- What scopes fix, over nodes that each name nodes before them.
use Rattle.std.proofs.Common.{◌^◌, ◌||◌, true≢false, ◌≡◌, ◌↔◌, subst, Result, Ok, Err, ℕ, zero, suc, ◌+◌, ◌-◌, ◌<◌, ◌≤◌, Bool, true, false, ◌&&◌, IsTrue, List, [], ◌∷◌, ◌++◌, length, take, get_or, refl, sym, ◌∙◌, ap, ap₂, arith, Some, cond}
use Rattle.std.proofs.Math.Path.{fun_ext}
use Rattle.std.specs.Prelude.{slice_get, nat_le, nat_eq, IfOk, OnErr}
use Rattle.std.specs.List.{list_any}
use Rattle.std.proofs.lemmas.List.{get_or-take, get_or_append_left}
use Rattle.std.proofs.lemmas.Option.{get_or_from_slice_get, slice_get_within}
use Rattle.std.proofs.lemmas.Bool.Decides.{nat_tests}
use Rattle.indexmap.specs.IndexSet.{insert_key}
use Rattle.rows.specs.Tables.{Grows}
use Rattle.fixed_names.specs.Fixed.{Fixed, IsFree, none_fixed, fix, bind, bound}
use Rattle.fixed_names.specs.Scopes.{fixed_in, fixed_at, all_fixed, is_before, IsWithin, rank, all_earlier_from, AllEarlier}
use Rattle.fixed_names.specs.declared.scopes.Fixing.{Fixing}
use Rattle.fixed_names.specs.declared.scopes.Scope.{Scope}
use Rattle.fixed_names.specs.declared.scopes.Scope.TheVariants as scope
use Rattle.rows.proofs.TableLaws.{length-built, built-push, built-at, grows-same}

-- below binders

bind-none : (k : ℕ) → none_fixed k ≡ bind none_fixed k
bind-none zero = refl
bind-none (suc k) = refl

pub bound-none : (n : ℕ) → none_fixed ≡ bound n none_fixed
bound-none zero = refl
bound-none (suc n) = fun_ext bind-none ∙ ap bind (bound-none n)

pub bound-bound : (a b : ℕ) (z : Fixed) (n : ℕ) → n ≡ a + b → bound b (bound a z) ≡ bound n z
bound-bound a zero z n e = let same : a ≡ n = omega arith in ap (λ m. bound m z) same
bound-bound a (suc b) z zero e = absurd (omega arith)
bound-bound a (suc b) z (suc n) e = ap bind (bound-bound a b z n (omega arith))

pub free-below : (n : ℕ) (z : Fixed) (k : ℕ) → k < n → IsFree (bound n z) k
free-below zero z k lt = absurd (omega arith)
free-below (suc n) z zero lt = refl
free-below (suc n) z (suc k) lt = free-below n z k (omega arith)

pub bound-past : (n : ℕ) (z : Fixed) (k j : ℕ) → k ≡ n + j → bound n z k ≡ z j
bound-past zero z k j e = let s : k ≡ j = omega arith in ap z s
bound-past (suc n) z zero j e = absurd (omega arith)
bound-past (suc n) z (suc k) j e = bound-past n z k j (omega arith)

-- a scope fixes the same where nodes are added after those that it names

pub before : (at n : ℕ) → IsTrue (nat_le (suc at) n) → at < n
before at n h = grind (arith, nat_tests)

pub before-is : (at n : ℕ) → at < n → IsTrue (nat_le (suc at) n)
before-is at n h = grind (arith, nat_tests)

pub before-more : (n m : ℕ) (s : Scope) → n ≤ m → IsTrue (is_before n s) → IsTrue (is_before m s)
before-more n m scope.Open le h = h
before-more n m (scope.Node at depth) le h = let b = before at n h in before-is at m (omega arith)

fixed-append : (known more : List Fixed) (s : Scope) → IsWithin known s → fixed_in (known ++ more) s ≡ fixed_in known s
fixed-append known more scope.Open h = refl
fixed-append known more (scope.Node at depth) h = ap (bound depth) (get_or_append_left known more none_fixed at (before at _ h))

fixed-take : (known : List Fixed) (n : ℕ) (s : Scope) → IsTrue (is_before n s) → fixed_in (take n known) s ≡ fixed_in known s
fixed-take known n scope.Open h = refl
fixed-take known n (scope.Node at depth) h = ap (bound depth) (get_or-take n known at none_fixed (before at _ h))

pub fixed-grows : (old new : List Fixed) (s : Scope) → Grows old new → IsWithin old s → fixed_in new s ≡ fixed_in old s
fixed-grows old new s g h = ap (λ known. fixed_in known s) g.1 ∙ fixed-append old g.0 s h

length-grows : {X : Type 0} (xs ys zs : List X) → zs ≡ xs ++ ys → length xs ≤ length zs
length-grows [] ys zs e = omega arith
length-grows (x ∷ xs) ys [] e = cc
length-grows (x ∷ xs) ys (z ∷ zs) e = let rest : zs ≡ xs ++ ys = cc in let h = length-grows xs ys zs rest in omega arith

pub within-grows : (old new : List Fixed) (s : Scope) → Grows old new → IsWithin old s → IsWithin new s
within-grows old new s g h = before-more (length old) (length new) s (length-grows old g.0 new g.1) h

-- each node names nodes before it

&&-true : (a b : Bool) → a && b ≡ true → (a ≡ true) × (b ≡ true)
&&-true true b h = (refl, h)
&&-true false b h = absurd (cc h)

earlier_from-at : (n : ℕ) (nodes : List Fixing) (k j : ℕ) (node : Fixing) → j ≡ n + k → all_earlier_from n nodes ≡ true → slice_get nodes k ≡ Some node → is_before j node.outer ≡ true
earlier_from-at n [] k j node e all at = absurd (cc at)
earlier_from-at n (first ∷ nodes) zero j node e all at =
    let same : first ≡ node = cc at in
    let place : j ≡ n = omega arith in
    rw (place, ← same) ((&&-true _ _ all).0)
earlier_from-at n (first ∷ nodes) (suc k) j node e all at =
    earlier_from-at (suc n) nodes k j node (omega arith) ((&&-true _ _ all).1) at

earlier_from-push : (n : ℕ) (nodes : List Fixing) (j : ℕ) (node : Fixing) → j ≡ n + length nodes → all_earlier_from n nodes ≡ true → is_before j node.outer ≡ true → all_earlier_from n (nodes ++ node ∷ []) ≡ true
earlier_from-push n [] j node e all here =
    let place : n ≡ j = omega arith in
    ap (λ m. is_before m node.outer && true) place ∙ ap (λ b. b && true) here
earlier_from-push n (first ∷ nodes) j node e all here =
    ap₂ ◌&&◌ ((&&-true _ _ all).0) (earlier_from-push (suc n) nodes j node (omega arith) ((&&-true _ _ all).1) here)

-- what a node says of the scope at its place
pub record AtNode (known : List Fixed) (at : ℕ) (node : Fixing) : Type 0 where
  pub fixes : slice_get known at ≡ Some (fixed_at known node)
  pub before : IsTrue (is_before at node.outer)
  pub within : IsWithin known node.outer

pub at-node : (nodes : List Fixing) (at : ℕ) (node : Fixing) → AllEarlier nodes → slice_get nodes at ≡ Some node → AtNode (all_fixed nodes) at node
at-node nodes at node all here =
    let known = all_fixed nodes in
    let before_it : IsTrue (is_before at node.outer) = earlier_from-at 0 nodes at at node (omega arith) all here in
    let below : at < length nodes = slice_get_within nodes at node here in
    let size : length known ≡ length nodes = length-built fixed_at nodes in
    record {
      fixes = rw (built-at fixed_at nodes at node here, fixed-take known at node.outer before_it) refl;
      before = before_it;
      within = before-more at (length known) node.outer (omega arith) before_it;
    }

-- a node that is put in, whether or not it is there already
module _ (eq : Fixing → Fixing → Bool) (nodes : List Fixing) (node : Fixing) (all : AllEarlier nodes) (within : IsWithin (all_fixed nodes) node.outer) where
  grows-insert : Grows (all_fixed nodes) (all_fixed (insert_key eq nodes node))
  grows-insert = by (list_any (eq node) nodes)
    where
      by : (b : Bool) → Grows (all_fixed nodes) (all_fixed (cond b nodes (nodes ++ node ∷ [])))
      by true = grows-same (all_fixed nodes)
      by false = (fixed_at (all_fixed nodes) node ∷ [], built-push fixed_at nodes node)

  pub earlier-insert : AllEarlier (insert_key eq nodes node)
  earlier-insert = by (list_any (eq node) nodes)
    where
      here : is_before (length nodes) node.outer ≡ true
      here = rw (← length-built fixed_at nodes) within

      by : (b : Bool) → AllEarlier (cond b nodes (nodes ++ node ∷ []))
      by true = all
      by false = earlier_from-push 0 nodes (length nodes) node (omega arith) all here

-- what holds of the nodes after a put that may fail
pub earlier-put : {A E : Type 0} (eq : Fixing → Fixing → Bool) (r : Result A E) (nodes new : List Fixing) (node : Fixing) → AllEarlier nodes → IsWithin (all_fixed nodes) node.outer → IfOk r (λ _. new ≡ insert_key eq nodes node) → OnErr r (new ≡ nodes) → AllEarlier new
earlier-put eq (Ok x) nodes new node all within put kept = subst AllEarlier (sym put) (earlier-insert eq nodes node all within)
earlier-put eq (Err y) nodes new node all within put kept = subst AllEarlier (sym kept) all

-- what a put gives that left the node at this place
pub record IsPut (old new : List Fixing) (node : Fixing) (at : ℕ) : Type 0 where
  pub grows : Grows (all_fixed old) (all_fixed new)
  pub fixes : fixed_in (all_fixed new) (scope.Node at 0) ≡ fix node.index (fixed_in (all_fixed old) node.outer)
  pub within : IsWithin (all_fixed new) (scope.Node at 0)

pub is-put : (eq : Fixing → Fixing → Bool) (old new : List Fixing) (node : Fixing) (at : ℕ) → AllEarlier old → IsWithin (all_fixed old) node.outer → new ≡ insert_key eq old node → slice_get new at ≡ Some node → IsPut old new node at
is-put eq old new node at all within put here =
    let g = grows-insert eq old node all within in
    let grows : Grows (all_fixed old) (all_fixed new) = (g.0, ap all_fixed put ∙ g.1) in
    let earlier : AllEarlier new = subst AllEarlier (sym put) (earlier-insert eq old node all within) in
    let known = all_fixed new in
    let below : at < length new = slice_get_within new at node here in
    record {
      grows = grows;
      fixes =
          get_or_from_slice_get known at (fixed_at known node) none_fixed (at-node new at node earlier here).fixes
          ∙ ap (fix node.index) (fixed-grows (all_fixed old) known node.outer grows within);
      within = before-is at (length known) (omega (arith, length-built fixed_at new));
    }

-- the walk outwards: whether the index is free is told by another index further out
pub record SameAs (known : List Fixed) (s : Scope) (k : ℕ) (outer : Scope) (j : ℕ) : Type 0 where
  pub same : fixed_in known s k ≡ fixed_in known outer j
  pub within : IsWithin known outer

pub out-of : (nodes : List Fixing) (s outer : Scope) (k j at depth next : ℕ) (node : Fixing) → AllEarlier nodes → SameAs (all_fixed nodes) s k outer j → outer ≡ scope.Node at depth → slice_get nodes at ≡ Some node → j ≡ depth + next
    → fixed_in (all_fixed nodes) s k ≡ fix node.index (fixed_in (all_fixed nodes) node.outer) next
out-of nodes s outer k j at depth next node all h is here far =
    let known = all_fixed nodes in
    h.same ∙ ap (λ o. fixed_in known o j) is ∙ bound-past depth _ j next far
    ∙ ap (λ (z : Fixed). z next) (get_or_from_slice_get known at (fixed_at known node) none_fixed (at-node nodes at node all here).fixes)

not-equal : (n m : ℕ) → (n ≡ m → ⊥) → nat_eq n m ≡ false
not-equal n m apart = grind (arith, nat_tests)

equal : (n m : ℕ) → n ≡ m → nat_eq n m ≡ true
equal n m same = grind (arith, nat_tests)

-- an index below the binders is free, and the one that is fixed is not
pub free-inside : (known : List Fixed) (s outer : Scope) (k j at depth : ℕ) → SameAs known s k outer j → outer ≡ scope.Node at depth → j < depth → IsFree (fixed_in known s) k
free-inside known s outer k j at depth h is lt = h.same ∙ ap (λ o. fixed_in known o j) is ∙ free-below depth _ j lt

pub not-free : (nodes : List Fixing) (s outer : Scope) (k j at depth next : ℕ) (node : Fixing) → AllEarlier nodes → SameAs (all_fixed nodes) s k outer j → outer ≡ scope.Node at depth → slice_get nodes at ≡ Some node → j ≡ depth + next → next ≡ node.index
    → IsFree (fixed_in (all_fixed nodes) s) k → ⊥
not-free nodes s outer k j at depth next node all h is here far same free =
    let yes = out-of nodes s outer k j at depth next node all h is here far ∙ ap (λ b. b || fixed_in (all_fixed nodes) node.outer next) (equal next node.index same) in
    true≢false (sym yes ∙ free)

pub node-below : (nodes : List Fixing) (s outer : Scope) (k j at depth : ℕ) → SameAs (all_fixed nodes) s k outer j → outer ≡ scope.Node at depth → at < length nodes
node-below nodes s outer k j at depth h is =
    let b = before at _ (subst (IsWithin (all_fixed nodes)) is h.within) in omega (arith, length-built fixed_at nodes)

pub further-out : (nodes : List Fixing) (s outer : Scope) (k j at depth next : ℕ) (node : Fixing) → AllEarlier nodes → SameAs (all_fixed nodes) s k outer j → outer ≡ scope.Node at depth → slice_get nodes at ≡ Some node → j ≡ depth + next → (next ≡ node.index → ⊥)
    → SameAs (all_fixed nodes) s k node.outer next × (rank node.outer < rank outer)
further-out nodes s outer k j at depth next node all h is here far apart =
    let a = at-node nodes at node all here in (
      record { same = out-of nodes s outer k j at depth next node all h is here far ∙ ap (λ b. b || fixed_in (all_fixed nodes) node.outer next) (not-equal next node.index apart); within = a.within },
      subst (λ o. rank node.outer < rank o) (sym is) (lower node.outer a.before),
    )
  where
    lower : (o : Scope) → IsTrue (is_before at o) → rank o < suc at
    lower scope.Open b = omega arith
    lower (scope.Node m d) b = let c = before m at b in omega arith
