-- The lists of environments, over nodes that each name nodes before them.
use Rattle.std.proofs.Common.{◌^◌, ◌||◌, true≢false, length-append, ◌≡◌, ⊎_elim, None, subst, Result, Ok, Err, ℕ, zero, suc, ◌+◌, ◌<◌, ◌≤◌, Bool, true, false, ◌&&◌, IsTrue, List, [], ◌∷◌, ◌++◌, length, take, get_or, refl, sym, ◌∙◌, ap, ap₂, arith, Some, add-zero, add_assoc, cond}
use Rattle.std.specs.Prelude.{slice_get, nat_le, IfOk, OnErr}
use Rattle.std.specs.List.{All, list_any, position_or_len}
use Rattle.std.proofs.lemmas.List.Elements.{All-head}
use Rattle.std.proofs.lemmas.List.{get_or-take, get_or_append_left}
use Rattle.std.proofs.lemmas.Option.{get_or_from_slice_get, slice_get_within, slice_get_cases}
use Rattle.std.proofs.lemmas.Bool.Decides.{nat_tests}
use Rattle.indexmap.specs.IndexSet.{insert_key}
use Rattle.rows.specs.Tables.{Grows}
use Rattle.closures.specs.Environments.{Waiting, waiting, deepened, listed, node_list, lists_of, is_before, IsWithin, all_earlier_from, AllEarlier}
use Rattle.closures.specs.declared.environments.Node.{Node}
use Rattle.closures.specs.declared.environments.Environment.{Environment}
use Rattle.closures.specs.declared.environments.Environment.TheVariants as env
use Rattle.rows.proofs.TableLaws.{length-built, built-push, built-at, grows-same}

-- under more binders

pub deepened-zero : (ws : List Waiting) → deepened 0 ws ≡ ws
deepened-zero [] = refl
deepened-zero (w ∷ ws) = ap₂ (λ n rest. waiting n w.delayed ∷ rest) (add-zero w.depth) (deepened-zero ws)

pub deepened-deepened : (a b : ℕ) (ws : List Waiting) → deepened b (deepened a ws) ≡ deepened (a + b) ws
deepened-deepened a b [] = refl
deepened-deepened a b (w ∷ ws) = ap₂ (λ n rest. waiting n w.delayed ∷ rest) (add_assoc w.depth a b) (deepened-deepened a b ws)

-- an environment's list stays where nodes are added after those that it names

pub before : (at n : ℕ) → IsTrue (nat_le (suc at) n) → at < n
before at n h = grind (arith, nat_tests)

pub is_before-within : (at n : ℕ) → at < n → IsTrue (nat_le (suc at) n)
is_before-within at n h = grind (arith, nat_tests)

pub is_before-more : (n m : ℕ) (e : Environment) → n ≤ m → IsTrue (is_before n e) → IsTrue (is_before m e)
is_before-more n m env.Empty le h = h
is_before-more n m (env.Node at lift) le h = let b = before at n h in is_before-within at m (omega arith)

pub listed-append : (known more : List (List Waiting)) (e : Environment) → IsWithin known e → listed (known ++ more) e ≡ listed known e
listed-append known more env.Empty h = refl
listed-append known more (env.Node at lift) h = ap (deepened lift) (get_or_append_left known more [] at (before at _ h))

pub listed-take : (known : List (List Waiting)) (n : ℕ) (e : Environment) → IsTrue (is_before n e) → listed (take n known) e ≡ listed known e
listed-take known n env.Empty h = refl
listed-take known n (env.Node at lift) h = ap (deepened lift) (get_or-take n known at [] (before at n h))

pub listed-grows : (old new : List (List Waiting)) (e : Environment) → Grows old new → IsWithin old e → listed new e ≡ listed old e
listed-grows old new e g h = ap (λ known. listed known e) g.1 ∙ listed-append old g.0 e h

-- each node names nodes before it

&&-true : (a b : Bool) → a && b ≡ true → (a ≡ true) × (b ≡ true)
&&-true true b h = (refl, h)
&&-true false b h = absurd (cc h)

earlier_from-at : (n : ℕ) (nodes : List Node) (k j : ℕ) (node : Node) → j ≡ n + k → all_earlier_from n nodes ≡ true → slice_get nodes k ≡ Some node → is_before j node.rest ≡ true
earlier_from-at n [] k j node e all at = absurd (cc at)
earlier_from-at n (first ∷ nodes) zero j node e all at =
    let same : first ≡ node = cc at in
    let place : j ≡ n = omega arith in
    rw (place, ← same) ((&&-true _ _ all).0)
earlier_from-at n (first ∷ nodes) (suc k) j node e all at =
    earlier_from-at (suc n) nodes k j node (omega arith) ((&&-true _ _ all).1) at

earlier_from-push : (n : ℕ) (nodes : List Node) (j : ℕ) (node : Node) → j ≡ n + length nodes → all_earlier_from n nodes ≡ true → is_before j node.rest ≡ true → all_earlier_from n (nodes ++ node ∷ []) ≡ true
earlier_from-push n [] j node e all here =
    let place : n ≡ j = omega arith in
    ap (λ m. is_before m node.rest && true) place ∙ ap (λ b. b && true) here
earlier_from-push n (first ∷ nodes) j node e all here =
    ap₂ ◌&&◌ ((&&-true _ _ all).0) (earlier_from-push (suc n) nodes j node (omega arith) ((&&-true _ _ all).1) here)

-- what a node says of the list at its place
pub record AtNode (known : List (List Waiting)) (at : ℕ) (node : Node) : Type 0 where
  pub list : slice_get known at ≡ Some (node_list known node)
  pub within : IsWithin known node.rest

pub at_node : (nodes : List Node) (at : ℕ) (node : Node) → AllEarlier nodes → slice_get nodes at ≡ Some node → AtNode (lists_of nodes) at node
at_node nodes at node all here =
    let known = lists_of nodes in
    let before_it : IsTrue (is_before at node.rest) = earlier_from-at 0 nodes at at node (omega arith) all here in
    let below : at < length nodes = slice_get_within nodes at node here in
    let size : length known ≡ length nodes = length-built node_list nodes in
    record {
      list = rw (built-at node_list nodes at node here, listed-take known at node.rest before_it) refl;
      within = is_before-more at (length known) node.rest (omega arith) before_it;
    }

-- a node that is put in, whether or not it is there already
module _ (eq : Node → Node → Bool) (nodes : List Node) (node : Node) (all : AllEarlier nodes) (within : IsWithin (lists_of nodes) node.rest) where
  pub grows-insert_key : Grows (lists_of nodes) (lists_of (insert_key eq nodes node))
  grows-insert_key = by (list_any (eq node) nodes)
    where
      by : (b : Bool) → Grows (lists_of nodes) (lists_of (cond b nodes (nodes ++ node ∷ [])))
      by true = grows-same (lists_of nodes)
      by false = (node_list (lists_of nodes) node ∷ [], built-push node_list nodes node)

  pub earlier-insert_key : AllEarlier (insert_key eq nodes node)
  earlier-insert_key = by (list_any (eq node) nodes)
    where
      here : is_before (length nodes) node.rest ≡ true
      here = rw (← length-built node_list nodes) within

      by : (b : Bool) → AllEarlier (cond b nodes (nodes ++ node ∷ []))
      by true = all
      by false = earlier_from-push 0 nodes (length nodes) node (omega arith) all here

-- what holds of the nodes after a put that may fail
pub earlier-put : {A E : Type 0} (eq : Node → Node → Bool) (r : Result A E) (nodes new : List Node) (node : Node) → AllEarlier nodes → IsWithin (lists_of nodes) node.rest → IfOk r (λ _. new ≡ insert_key eq nodes node) → OnErr r (new ≡ nodes) → AllEarlier new
earlier-put eq (Ok x) nodes new node all within put kept = subst AllEarlier (sym put) (earlier-insert_key eq nodes node all within)
earlier-put eq (Err y) nodes new node all within put kept = subst AllEarlier (sym kept) all

-- a key that no key equals gets the place after all
position_or_len-none : {X : Type 0} (p : X → Bool) (xs : List X) → list_any p xs ≡ false → position_or_len p xs ≡ length xs
position_or_len-none p [] h = refl
position_or_len-none p (x ∷ xs) h = by (p x) refl (λ e. position_or_len-none p xs (ap (λ b. b || list_any p xs) (sym e) ∙ h))
  where
    by : (b : Bool) → p x ≡ b → (p x ≡ false → position_or_len p xs ≡ length xs) → position_or_len p (x ∷ xs) ≡ length (x ∷ xs)
    by true e rest = absurd (true≢false (ap (λ b. b || list_any p xs) (sym e) ∙ h))
    by false e rest = let r = rest e in rw e (omega arith)

-- places are numbers of 64 bits, so that there are no more nodes than these
pub few-put : {E : Type 0} (eq : Node → Node → Bool) (r : Result (ℕ × Bool) E) (nodes new : List Node) (node : Node) → length nodes ≤ 2 ^ 64 → IfOk r (λ _. new ≡ insert_key eq nodes node) → OnErr r (new ≡ nodes) → IfOk r (λ x. x.0 ≡ position_or_len (eq node) nodes) → IfOk r (λ x. x.0 < 2 ^ 64) → length new ≤ 2 ^ 64
few-put eq (Err y) nodes new node few put kept place small = let e : length new ≡ length nodes = ap length kept in omega arith
few-put eq (Ok x) nodes new node few put kept place small = by (list_any (eq node) nodes) refl put
  where
    by : (b : Bool) → list_any (eq node) nodes ≡ b → new ≡ cond b nodes (nodes ++ node ∷ []) → length new ≤ 2 ^ 64
    by true e is = let l : length new ≡ length nodes = ap length is in omega arith
    by false e is =
        let l : length new ≡ length nodes + 1 = ap length is ∙ length-append nodes (node ∷ []) in
        let p = position_or_len-none (eq node) nodes e in
        omega arith

-- what a put gives that left the node at this place
pub record IsPut (old new : List Node) (node : Node) (at : ℕ) : Type 0 where
  pub grows : Grows (lists_of old) (lists_of new)
  pub list : listed (lists_of new) (env.Node at 0) ≡ waiting 0 node.delayed ∷ listed (lists_of old) node.rest
  pub within : IsWithin (lists_of new) (env.Node at 0)

pub is_put : (eq : Node → Node → Bool) (old new : List Node) (node : Node) (at : ℕ) → AllEarlier old → IsWithin (lists_of old) node.rest → new ≡ insert_key eq old node → slice_get new at ≡ Some node → IsPut old new node at
is_put eq old new node at all within put here =
    let g = grows-insert_key eq old node all within in
    let grows : Grows (lists_of old) (lists_of new) = (g.0, ap lists_of put ∙ g.1) in
    let earlier : AllEarlier new = subst AllEarlier (sym put) (earlier-insert_key eq old node all within) in
    let known = lists_of new in
    let below : at < length new = slice_get_within new at node here in
    record {
      grows = grows;
      list =
          deepened-zero _
          ∙ get_or_from_slice_get known at (node_list known node) [] (at_node new at node earlier here).list
          ∙ ap (λ ws. waiting 0 node.delayed ∷ ws) (listed-grows (lists_of old) known node.rest grows within);
      within = is_before-within at (length known) (omega (arith, length-built node_list new));
    }

-- the first step of a node waits under the binders of the environment
pub depth-first : (nodes : List Node) (at lift by n : ℕ) → IsWithin (lists_of nodes) (env.Node at lift) → All (λ w. w.depth + by ≤ n) (listed (lists_of nodes) (env.Node at lift)) → lift + by ≤ n
depth-first nodes at lift by n within all = ⊎_elim found past (slice_get_cases nodes at).1
  where
    below : at < length nodes
    below = let b = before at _ within in omega (arith, length-built node_list nodes)

    past : (length nodes ≤ at) × (slice_get nodes at ≡ None) → lift + by ≤ n
    past h = absurd (omega (arith, below))

    found : (node : Node) × (at < length nodes) × (slice_get nodes at ≡ Some node) × (get_or nodes at node ≡ node) → lift + by ≤ n
    found h =
        let known = lists_of nodes in
        let before_it = take at known in
        let list = get_or_from_slice_get known at (node_list before_it h.0) [] (built-at node_list nodes at h.0 h.2) in
        let first = All-head (λ w. w.depth + by ≤ n) _ (deepened lift (listed before_it h.0.rest)) (subst (λ ws. All (λ w. w.depth + by ≤ n) (deepened lift ws)) list all) in
        omega arith
