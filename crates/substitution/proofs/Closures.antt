-- The laws that open a tree under delayed substitutions.
use Rattle.std.proofs.Common.{◌≡◌, ℕ, zero, suc, ◌+◌, ◌-◌, ◌<◌, ◌≤◌, List, [], ◌∷◌, ◌++◌, Some, option_map, map, refl, sym, ◌∙◌, ap, ap₂, add-zero, add_assoc, arith}
use Rattle.trees.specs.declared.op.Op.{Op}
use Rattle.trees.specs.Operators.{binds_of}
use Rattle.trees.specs.Trees.{Tree, Trees, Var, Make, NoTrees, More, Subst, raise, entry, entry_under, apply, apply_under, apply_kids, shift_by, push, then, id}
use Rattle.trees.specs.Judgements.{trees}
use Rattle.substitution.specs.Forms.{lift_by}
use Rattle.trees.specs.Trees.{count_of}
use Rattle.substitution.specs.Action.{look, ActAlike}
use Rattle.substitution.specs.Shifts.{then_all}
use Rattle.substitution.specs.Delayed.{Delayed, at_depth, here, closed, deeper, closed_kids, kid_at}
use Rattle.substitution.proofs.ThenLaws.{apply-id, apply-then, apply-shift_by}
use Rattle.substitution.proofs.BinderLaws.{apply_under-lift_by, apply_under-apply_under, lift_by-add}
use Rattle.substitution.proofs.ActionLaws.{apply_under-act_alike}
use Rattle.substitution.proofs.RaiseLaws.{apply_under-shift_by, apply_under-raise, raise-zero, entry_under-below, entry_under-above, look-past}

-- an operator keeps its head, and its kids carry the list deeper

closed_kids-none : (ts : Trees) (op : Op) (at : ℕ) → closed_kids ts op at [] ≡ ts
closed_kids-none NoTrees op at = refl
closed_kids-none (More t rest) op at = ap (More t) (closed_kids-none rest op (suc at))

closed_kids-more : (ts : Trees) (op : Op) (at : ℕ) (i : Delayed) (env : List Delayed) → closed_kids (apply_kids ts op at i.depth i.subst) op at env ≡ closed_kids ts op at (i ∷ env)
closed_kids-more NoTrees op at i env = refl
closed_kids-more (More t rest) op at i env =
    ap (More (closed (apply_under t (i.depth + binds_of op at) i.subst) (deeper (binds_of op at) env))) (closed_kids-more rest op (suc at) i env)

pub closed-make : (op : Op) (ts : Trees) (env : List Delayed) → closed (Make op ts) env ≡ Make op (closed_kids ts op 0 env)
closed-make op ts [] = ap (Make op) (sym (closed_kids-none ts op 0))
closed-make op ts (i ∷ env) =
    closed-make op (apply_kids ts op 0 i.depth i.subst) env ∙ ap (Make op) (closed_kids-more ts op 0 i env)

kid_at-from : (ts : Trees) (op : Op) (at k : ℕ) (env : List Delayed) → kid_at (closed_kids ts op at env) k ≡ option_map (λ t. closed t (deeper (binds_of op (at + k)) env)) (kid_at ts k)
kid_at-from NoTrees op at k env = refl
kid_at-from (More t rest) op at zero env = ap (λ j. Some (closed t (deeper (binds_of op j) env))) (sym (add-zero at))
kid_at-from (More t rest) op at (suc k) env =
    kid_at-from rest op (suc at) k env
    ∙ ap (λ j. option_map (λ t. closed t (deeper (binds_of op j) env)) (kid_at rest k)) (let e : suc at + k ≡ at + suc k = omega arith in e)

pub kid_at-closed_kids : (ts : Trees) (op : Op) (k : ℕ) (env : List Delayed) → kid_at (closed_kids ts op 0 env) k ≡ option_map (λ t. closed t (deeper (binds_of op k) env)) (kid_at ts k)
kid_at-closed_kids ts op k env =
    kid_at-from ts op 0 k env
    ∙ ap (λ j. option_map (λ t. closed t (deeper (binds_of op j) env)) (kid_at ts k)) (let e : 0 + k ≡ k = omega arith in e)

-- trees are the same list where each place holds the same
pub trees-from_kid_at : (ts us : Trees) → ((k : ℕ) → kid_at ts k ≡ kid_at us k) → ts ≡ us
trees-from_kid_at NoTrees NoTrees h = refl
trees-from_kid_at NoTrees (More u us) h = absurd (cc (h 0))
trees-from_kid_at (More t ts) NoTrees h = absurd (cc (h 0))
trees-from_kid_at (More t ts) (More u us) h =
    let e : t ≡ u = cc (h 0) in ap₂ More e (trees-from_kid_at ts us (λ k. h (suc k)))

-- an instance adds to the list

pub closed-apply : (t : Tree) (d : Subst) (env : List Delayed) → closed (apply t d) env ≡ closed t (here d ∷ env)
closed-apply t d env = refl

pub closed-raise : (t : Tree) (n : ℕ) (env : List Delayed) → closed (raise t 0 n) env ≡ closed t (here (shift_by n) ∷ env)
closed-raise t n env = ap (λ u. closed u env) (sym (apply-shift_by t n))

pub closed-append : (t : Tree) (env more : List Delayed) → closed t (env ++ more) ≡ closed (closed t env) more
closed-append t [] more = refl
closed-append t (i ∷ env) more = closed-append (apply_under t i.depth i.subst) env more

-- a variable skips an entry or becomes it

pub closed-var_below : (k : ℕ) (i : Delayed) (env : List Delayed) → k < i.depth → closed (Var k) (i ∷ env) ≡ closed (Var k) env
closed-var_below k i env lt = ap (λ u. closed u env) (entry_under-below i.depth i.subst k lt)

pub closed-var_above : (k : ℕ) (i : Delayed) (env : List Delayed) → i.depth ≤ k → closed (Var k) (i ∷ env) ≡ closed (look i.subst (k - i.depth)) (here (shift_by i.depth) ∷ env)
closed-var_above k i env le =
    ap (λ u. closed u env)
    (ap (entry_under i.depth i.subst) (let e : k ≡ k - i.depth + i.depth = omega arith in e)
    ∙ entry_under-above i.depth i.subst (k - i.depth))
    ∙ closed-raise (look i.subst (k - i.depth)) i.depth env

entry-kid_at : (p : Trees) (s j : ℕ) (a : Tree) → kid_at p j ≡ Some a → entry p s j ≡ a
entry-kid_at NoTrees s j a h = absurd (cc h)
entry-kid_at (More t rest) s zero a h = cc h
entry-kid_at (More t rest) s (suc j) a h = entry-kid_at rest s j a h

pub closed-var_past : (k : ℕ) (i : Delayed) (env : List Delayed) → i.depth + count_of i.subst.pushed ≤ k → closed (Var k) (i ∷ env) ≡ closed (Var (k - count_of i.subst.pushed + i.subst.shift)) env
closed-var_past k i env le =
    closed-var_above k i env (omega arith)
    ∙ ap (λ u. closed u (here (shift_by i.depth) ∷ env))
    (ap (look i.subst) (let e : k - i.depth ≡ k - i.depth - count_of i.subst.pushed + count_of i.subst.pushed = omega arith in e)
    ∙ look-past i.subst (k - i.depth - count_of i.subst.pushed))
    ∙ ap (λ j. closed (Var j) env) (let e : k - i.depth - count_of i.subst.pushed + i.subst.shift + i.depth ≡ k - count_of i.subst.pushed + i.subst.shift = omega arith in e)

pub closed-var_pushed : (k : ℕ) (i : Delayed) (env : List Delayed) (a : Tree) → i.depth ≤ k → kid_at i.subst.pushed (k - i.depth) ≡ Some a → closed (Var k) (i ∷ env) ≡ closed a (here (shift_by i.depth) ∷ env)
closed-var_pushed k i env a le h =
    closed-var_above k i env le
    ∙ ap (λ u. closed u (here (shift_by i.depth) ∷ env)) (entry-kid_at i.subst.pushed i.subst.shift (k - i.depth) a h)

-- a variable under an entry whose substitution is met row by row: pushed, a shift, or one after another

pub closed-var_push_here : (n : ℕ) (d : Subst) (a : Tree) (env : List Delayed) → closed (Var n) (at_depth n (push d a) ∷ env) ≡ closed a (here (shift_by n) ∷ env)
closed-var_push_here n d a env =
    closed-var_above n (at_depth n (push d a)) env (omega arith)
    ∙ ap (λ j. closed (look (push d a) j) (here (shift_by n) ∷ env)) (let e : n - n ≡ 0 = omega arith in e)

pub closed-var_push_next : (k n : ℕ) (d : Subst) (a : Tree) (env : List Delayed) → n ≤ k → closed (Var (suc k)) (at_depth n (push d a) ∷ env) ≡ closed (Var k) (at_depth n d ∷ env)
closed-var_push_next k n d a env le =
    closed-var_above (suc k) (at_depth n (push d a)) env (omega arith)
    ∙ ap (λ j. closed (look (push d a) j) (here (shift_by n) ∷ env)) (let e : suc k - n ≡ suc (k - n) = omega arith in e)
    ∙ sym (closed-var_above k (at_depth n d) env le)

pub closed-var_shift_by : (k n m : ℕ) (env : List Delayed) → n ≤ k → closed (Var k) (at_depth n (shift_by m) ∷ env) ≡ closed (Var (k + m)) env
closed-var_shift_by k n m env le =
    closed-var_past k (at_depth n (shift_by m)) env (omega arith)
    ∙ ap (λ j. closed (Var j) env) (let e : k - 0 + m ≡ k + m = omega arith in e)

-- the list itself

pub deeper-zero : (env : List Delayed) → deeper 0 env ≡ env
deeper-zero [] = refl
deeper-zero (i ∷ env) = ap₂ (λ n rest. at_depth n i.subst ∷ rest) (add-zero i.depth) (deeper-zero env)

pub deeper-deeper : (a b : ℕ) (env : List Delayed) → deeper b (deeper a env) ≡ deeper (a + b) env
deeper-deeper a b [] = refl
deeper-deeper a b (i ∷ env) = ap₂ (λ n rest. at_depth n i.subst ∷ rest) (add_assoc i.depth a b) (deeper-deeper a b env)

pub deeper-append : (b : ℕ) (env more : List Delayed) → deeper b (env ++ more) ≡ deeper b env ++ deeper b more
deeper-append b [] more = refl
deeper-append b (i ∷ env) more = ap (λ rest. at_depth (i.depth + b) i.subst ∷ rest) (deeper-append b env more)

-- a tree from above n binders, met below them, is the raised one
pub closed-raise_deeper : (t : Tree) (n : ℕ) (env : List Delayed) → closed (raise t 0 n) (deeper n env) ≡ raise (closed t env) 0 n
closed-raise_deeper t n [] = refl
closed-raise_deeper t n (i ∷ env) =
    ap (λ u. closed u (deeper n env))
    (ap (λ m. apply_under (raise t 0 n) m i.subst) (let e : i.depth + n ≡ n + i.depth + 0 = omega arith in e)
    ∙ apply_under-raise t 0 n i.depth i.subst
    ∙ ap (λ m. raise (apply_under t m i.subst) 0 n) (add-zero i.depth))
    ∙ closed-raise_deeper (apply_under t i.depth i.subst) n env

-- a lift is one more entry at the end
pub closed-shift_by_last : (t : Tree) (n : ℕ) (env : List Delayed) → closed t (env ++ here (shift_by n) ∷ []) ≡ raise (closed t env) 0 n
closed-shift_by_last t n env = closed-append t env (here (shift_by n) ∷ []) ∙ apply-shift_by (closed t env) n

-- two entries at one depth are one
pub closed-then : (t : Tree) (n : ℕ) (d e : Subst) (env : List Delayed) → closed t (at_depth n d ∷ at_depth n e ∷ env) ≡ closed t (at_depth n (then d e) ∷ env)
closed-then t n d e env = ap (λ u. closed u env) (apply_under-apply_under t n d e)

-- depth is lifting
pub closed-lift_by : (t : Tree) (n b : ℕ) (d : Subst) (env : List Delayed) → closed t (at_depth (n + b) d ∷ env) ≡ closed t (at_depth b (lift_by trees n d) ∷ env)
closed-lift_by t n b d env =
    ap (λ u. closed u env)
    (apply_under-lift_by t (n + b) d ∙ ap (apply t) (lift_by-add b n d) ∙ sym (apply_under-lift_by t b (lift_by trees n d)))

pub closed-id : (t : Tree) (n : ℕ) (env : List Delayed) → closed t (at_depth n id ∷ env) ≡ closed t env
closed-id t n env = ap (λ u. closed u env) (apply_under-shift_by t n 0 ∙ raise-zero t n)

pub closed-act_alike : (t : Tree) (n : ℕ) (d e : Subst) (env : List Delayed) → ActAlike d e → closed t (at_depth n d ∷ env) ≡ closed t (at_depth n e ∷ env)
closed-act_alike t n d e env h = ap (λ u. closed u env) (apply_under-act_alike t n d e h)

-- one after another, all at once
pub apply-then_all : (t : Tree) (ds : List Subst) → apply t (then_all ds) ≡ closed t (map here ds)
apply-then_all t [] = apply-id t
apply-then_all t (d ∷ ds) = apply-then t d (then_all ds) ∙ apply-then_all (apply t d) ds
