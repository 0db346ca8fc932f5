-- The laws of substitutions as data, a shift with a list of pushed trees.
use Rattle.std.proofs.Common.{◌≡◌, ℕ, zero, suc, ◌+◌, refl, sym, ◌∙◌, ap, ap₂, add-zero, add-suc, zero-add, arith}
use Rattle.std.proofs.Math.Path.{fun_ext}
use Rattle.trees.specs.Trees.{Tree, Trees, Var, NoTrees, More, Subst, raise, entry, apply, shift_by, push, without, then_from, then, id, up}
use Rattle.substitution.specs.Action.{look, ActAlike}
use Rattle.substitution.proofs.Maps.{replace, replace-replace, replace-vars, replace-same, raise-rename, apply_under-replace}

-- one substitution

pub apply-replace : (t : Tree) (d : Subst) → apply t d ≡ replace t (look d)
apply-replace t d = apply_under-replace t 0 d

pub act_alike-from_look : (d e : Subst) → ((k : ℕ) → look d k ≡ look e k) → ActAlike d e
act_alike-from_look d e h t = apply-replace t d ∙ ap (replace t) (fun_ext h) ∙ sym (apply-replace t e)

pub look-shift_by : (n k : ℕ) → look (shift_by n) k ≡ Var (k + n)
look-shift_by n k = refl

pub apply-id : (t : Tree) → apply t id ≡ t
apply-id t = apply-replace t id ∙ ap (replace t) (fun_ext (λ k. ap Var (add-zero k))) ∙ replace-same t

pub apply-shift_by : (t : Tree) (n : ℕ) → apply t (shift_by n) ≡ raise t 0 n
apply-shift_by t n = apply-replace t (shift_by n) ∙ replace-vars t (λ k. k + n) ∙ sym (raise-rename t 0 n)

-- one substitution after another

look-without : (n : ℕ) (p : Trees) (s k : ℕ) → look (without n p s) k ≡ entry p s (k + n)
look-without n NoTrees s k = let e : k + (s + n) ≡ k + n + s = omega arith in ap Var e
look-without zero (More t rest) s k = ap (entry (More t rest) s) (sym (add-zero k))
look-without (suc n) (More t rest) s k = look-without n rest s k ∙ ap (entry (More t rest) s) (sym (add-suc k n))

look-then_from : (p : Trees) (s : ℕ) (e : Subst) (k : ℕ) → look (then_from p s e) k ≡ apply (entry p s k) e
look-then_from NoTrees s e k = look-without s e.pushed e.shift k
look-then_from (More t rest) s e zero = refl
look-then_from (More t rest) s e (suc k) = look-then_from rest s e k

pub look-then : (d e : Subst) (k : ℕ) → look (then d e) k ≡ apply (look d k) e
look-then d e k = look-then_from d.pushed d.shift e k

pub apply-then : (t : Tree) (d e : Subst) → apply t (then d e) ≡ apply (apply t d) e
apply-then t d e =
    apply-replace t (then d e)
    ∙ ap (replace t) (fun_ext (λ k. look-then d e k ∙ apply-replace (look d k) e))
    ∙ sym (replace-replace t (look d) (look e))
    ∙ ap (λ u. replace u (look e)) (sym (apply-replace t d))
    ∙ sym (apply-replace (apply t d) e)

pub apply-apply : (t : Tree) (d e : Subst) → apply (apply t d) e ≡ apply t (then d e)
apply-apply t d e = sym (apply-then t d e)

-- the category of substitutions, with equality of shift and list

without-without : (m n : ℕ) (p : Trees) (s : ℕ) → without n (without m p s).pushed (without m p s).shift ≡ without (m + n) p s
without-without m n NoTrees s = let e : s + m + n ≡ s + (m + n) = omega arith in ap shift_by e
without-without zero n (More t rest) s = ap (λ k. without k (More t rest) s) (sym (zero-add n))
without-without (suc m) n (More t rest) s =
    without-without m n rest s ∙ ap (λ k. without k (More t rest) s) (let e : suc (m + n) ≡ suc m + n = omega arith in e)

without-then : (n : ℕ) (p : Trees) (s : ℕ) (f : Subst) → then (without n p s) f ≡ without n (then_from p s f).pushed (then_from p s f).shift
without-then n NoTrees s f = sym (without-without s n f.pushed f.shift)
without-then zero (More t rest) s f = refl
without-then (suc n) (More t rest) s f = without-then n rest s f

then_from-assoc : (p : Trees) (s : ℕ) (e f : Subst) → then (then_from p s e) f ≡ then_from p s (then e f)
then_from-assoc NoTrees s e f = without-then s e.pushed e.shift f
then_from-assoc (More a rest) s e f = ap₂ push (then_from-assoc rest s e f) (apply-apply a e f)

pub then-assoc : (d e f : Subst) → then (then d e) f ≡ then d (then e f)
then-assoc d e f = then_from-assoc d.pushed d.shift e f

without-zero : (p : Trees) (s : ℕ) → without 0 p s ≡ record { pushed = p; shift = s }
without-zero NoTrees s = ap shift_by (add-zero s)
without-zero (More t rest) s = refl

pub id-then : (d : Subst) → then id d ≡ d
id-then d = without-zero d.pushed d.shift

then_from-id : (p : Trees) (s : ℕ) → then_from p s id ≡ record { pushed = p; shift = s }
then_from-id NoTrees s = ap shift_by (zero-add s)
then_from-id (More a rest) s = ap₂ push (then_from-id rest s) (apply-id a)

pub then-id : (d : Subst) → then d id ≡ d
then-id d = then_from-id d.pushed d.shift

-- push, shift and then

pub push-then : (d e : Subst) (a : Tree) → then (push d a) e ≡ push (then d e) (apply a e)
push-then d e a = refl

pub shift_by-then-shift_by : (n m : ℕ) → then (shift_by n) (shift_by m) ≡ shift_by (n + m)
shift_by-then-shift_by n m = ap shift_by (let e : m + n ≡ n + m = omega arith in e)

pub up-then-push : (d : Subst) (a : Tree) → then up (push d a) ≡ d
up-then-push d a = id-then d

pub shift_by-then-push : (n : ℕ) (d : Subst) (a : Tree) → then (shift_by (suc n)) (push d a) ≡ then (shift_by n) d
shift_by-then-push n d a = refl
