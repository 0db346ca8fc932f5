-- Raising, which is weakening under binders, and the index that a binder keeps.
use Rattle.std.proofs.Common.{◌≡◌, ℕ, zero, suc, ◌+◌, ◌<◌, ◌≤◌, ◌⊎◌, refl, sym, ◌∙◌, ap, ap₂, inl, inr, add-zero, add-suc, zero-add, arith}
use Rattle.std.proofs.Math.Path.{fun_ext}
use Rattle.trees.specs.Trees.{Tree, Trees, Var, NoTrees, More, Subst, raise, raise_index, entry, entry_under, apply_under, shift_by}
use Rattle.trees.specs.Trees.{count_of}
use Rattle.substitution.specs.Action.{look}
use Rattle.substitution.proofs.Maps.{under, rename, lifted_by, lifted_by-under, lifted_by-add, lifted_by-vars, replace, rename-rename, rename-same, replace-rename, rename-replace, replace-vars, rename-lifted_by, raise-rename, raise_index-add, entry_under-lifted_by, apply_under-replace}

pub raise-zero : (t : Tree) (from : ℕ) → raise t from 0 ≡ t
raise-zero t from = raise-rename t from 0 ∙ ap (rename t) (fun_ext (none from)) ∙ rename-same t
  where
    none : (c k : ℕ) → raise_index c 0 k ≡ k
    none zero k = add-zero k
    none (suc c) zero = refl
    none (suc c) (suc k) = ap suc (none c k)

pub raise-raise : (t : Tree) (from a b : ℕ) → raise (raise t from a) from b ≡ raise t from (a + b)
raise-raise t from a b =
    raise-rename (raise t from a) from b
    ∙ ap (λ u. rename u (raise_index from b)) (raise-rename t from a)
    ∙ rename-rename t (raise_index from a) (raise_index from b)
    ∙ ap (rename t) (fun_ext (twice from))
    ∙ sym (raise-rename t from (a + b))
  where
    twice : (c k : ℕ) → raise_index c b (raise_index c a k) ≡ raise_index c (a + b) k
    twice zero k = omega arith
    twice (suc c) zero = refl
    twice (suc c) (suc k) = ap suc (twice c k)

raise_index-under : (n m : ℕ) → raise_index n m ≡ under n (raise_index 0 m)
raise_index-under n m = ap (λ c. raise_index c m) (sym (zero-add n)) ∙ raise_index-add n 0 m

pub apply_under-shift_by : (t : Tree) (n m : ℕ) → apply_under t n (shift_by m) ≡ raise t n m
apply_under-shift_by t n m =
    apply_under-replace t n (shift_by m)
    ∙ ap (replace t) (lifted_by-vars n (raise_index 0 m))
    ∙ replace-vars t (under n (raise_index 0 m))
    ∙ ap (rename t) (sym (raise_index-under n m))
    ∙ sym (raise-rename t n m)

pub raise_index-below : (from n k : ℕ) → k < from → raise_index from n k ≡ k
raise_index-below zero n k lt = absurd (omega arith)
raise_index-below (suc from) n zero lt = refl
raise_index-below (suc from) n (suc k) lt = ap suc (raise_index-below from n k (omega arith))

pub raise_index-above : (from n k : ℕ) → from ≤ k → raise_index from n k ≡ k + n
raise_index-above zero n k le = refl
raise_index-above (suc from) n zero le = absurd (omega arith)
raise_index-above (suc from) n (suc k) le =
    ap suc (raise_index-above from n k (omega arith)) ∙ (let e : suc (k + n) ≡ suc k + n = omega arith in e)

below_or_above : (k n : ℕ) → (k < n) ⊎ (n ≤ k)
below_or_above k n = grind arith

raise_index-exchange : (i m j n k : ℕ) → raise_index (i + m + j) n (raise_index i m k) ≡ raise_index i m (raise_index (i + j) n k)
raise_index-exchange i m j n k =
    elim (below_or_above k i) [
      | inl lt ↦
          rw (raise_index-below i m k lt, raise_index-below (i + j) n k (omega arith), raise_index-below i m k lt, raise_index-below (i + m + j) n k (omega arith)) refl
      | inr le ↦ above (below_or_above k (i + j)) le
    ]
  where
    above : (k < i + j) ⊎ (i + j ≤ k) → i ≤ k → raise_index (i + m + j) n (raise_index i m k) ≡ raise_index i m (raise_index (i + j) n k)
    above (inl lt) le =
        rw (raise_index-above i m k le, raise_index-below (i + j) n k lt, raise_index-above i m k le, raise_index-below (i + m + j) n (k + m) (omega arith)) refl
    above (inr past) le =
        rw (raise_index-above i m k le, raise_index-above (i + j) n k past, raise_index-above i m (k + n) (omega arith), raise_index-above (i + m + j) n (k + m) (omega arith)) (let e : k + m + n ≡ k + n + m = omega arith in e)

-- the outer of two raisings, past what the inner one put in, goes first
pub raise-raise_above : (t : Tree) (i m j n : ℕ) → raise (raise t i m) (i + m + j) n ≡ raise (raise t (i + j) n) i m
raise-raise_above t i m j n =
    raise-rename (raise t i m) (i + m + j) n
    ∙ ap (λ u. rename u (raise_index (i + m + j) n)) (raise-rename t i m)
    ∙ rename-rename t (raise_index i m) (raise_index (i + m + j) n)
    ∙ ap (rename t) (fun_ext (raise_index-exchange i m j n))
    ∙ sym (rename-rename t (raise_index (i + j) n) (raise_index i m))
    ∙ ap (λ u. rename u (raise_index i m)) (sym (raise-rename t (i + j) n))
    ∙ sym (raise-rename (raise t (i + j) n) i m)

-- weakening under binders

lifted_by-past : (n m : ℕ) (d : ℕ → Tree) (k : ℕ) → lifted_by (n + m) d (k + n) ≡ rename (lifted_by m d k) (λ j. j + n)
lifted_by-past zero m d k =
    ap₂ (λ c j. lifted_by c d j) (zero-add m) (add-zero k)
    ∙ sym (rename-same (lifted_by m d k))
    ∙ ap (rename (lifted_by m d k)) (sym (fun_ext add-zero))
lifted_by-past (suc n) m d k =
    ap₂ (λ c j. lifted_by c d j) (let e : suc n + m ≡ suc (n + m) = omega arith in e) (add-suc k n)
    ∙ ap (λ t. rename t suc) (lifted_by-past n m d k)
    ∙ rename-rename (lifted_by m d k) (λ j. j + n) suc
    ∙ ap (rename (lifted_by m d k)) (fun_ext (λ j. sym (add-suc j n)))

-- a tree raised by n from c on, under a substitution past those n
pub apply_under-raise : (t : Tree) (c n m : ℕ) (d : Subst) → apply_under (raise t c n) (n + m + c) d ≡ raise (apply_under t (m + c) d) c n
apply_under-raise t c n m d =
    apply_under-replace (raise t c n) (n + m + c) d
    ∙ ap (λ u. replace u (lifted_by (n + m + c) (look d))) (raise-rename t c n ∙ ap (rename t) (raise_index-under c n))
    ∙ replace-rename t (under c (raise_index 0 n)) (lifted_by (n + m + c) (look d))
    ∙ ap (replace t) (ap (λ f. λ k. f (under c (raise_index 0 n) k)) (lifted_by-add c (n + m) (look d)) ∙ lifted_by-under c (raise_index 0 n) (lifted_by (n + m) (look d)) ∙ ap (lifted_by c) (fun_ext (lifted_by-past n m (look d))))
    ∙ ap (replace t) (sym (rename-lifted_by c (lifted_by m (look d)) (raise_index 0 n)))
    ∙ sym (rename-replace t (lifted_by c (lifted_by m (look d))) (under c (raise_index 0 n)))
    ∙ ap (λ f. rename (replace t f) (under c (raise_index 0 n))) (sym (lifted_by-add c m (look d)))
    ∙ ap₂ rename (sym (apply_under-replace t (m + c) d)) (sym (raise_index-under c n))
    ∙ sym (raise-rename (apply_under t (m + c) d) c n)

-- the index under a substitution

pub entry_under-below : (n : ℕ) (d : Subst) (k : ℕ) → k < n → entry_under n d k ≡ Var k
entry_under-below zero d k lt = absurd (omega arith)
entry_under-below (suc n) d zero lt = refl
entry_under-below (suc n) d (suc k) lt =
    ap (λ t. raise t 0 1) (entry_under-below n d k (omega arith)) ∙ ap Var (let e : k + 1 ≡ suc k = omega arith in e)

pub entry_under-above : (n : ℕ) (d : Subst) (k : ℕ) → entry_under n d (k + n) ≡ raise (look d k) 0 n
entry_under-above n d k =
    ap (λ f. f (k + n)) (entry_under-lifted_by n d)
    ∙ ap (λ c. lifted_by c (look d) (k + n)) (sym (add-zero n))
    ∙ lifted_by-past n 0 (look d) k
    ∙ sym (raise-rename (look d k) 0 n)

entry-past : (p : Trees) (s k : ℕ) → entry p s (k + count_of p) ≡ Var (k + s)
entry-past NoTrees s k = ap (λ j. Var (j + s)) (add-zero k)
entry-past (More t rest) s k = ap (entry (More t rest) s) (add-suc k (count_of rest)) ∙ entry-past rest s k

pub look-past : (d : Subst) (k : ℕ) → look d (k + count_of d.pushed) ≡ Var (k + d.shift)
look-past d k = entry-past d.pushed d.shift k

-- a tree raised past all that d pushes sees the shift alone
pub apply_under-raise_past : (t : Tree) (n m : ℕ) (d : Subst) → apply_under (raise t n (m + count_of d.pushed)) n d ≡ raise t n (m + d.shift)
apply_under-raise_past t n m d =
    apply_under-replace (raise t n (m + count_of d.pushed)) n d
    ∙ ap (λ u. replace u (lifted_by n (look d))) (raise-rename t n (m + count_of d.pushed) ∙ ap (rename t) (raise_index-under n (m + count_of d.pushed)))
    ∙ replace-rename t (under n (raise_index 0 (m + count_of d.pushed))) (lifted_by n (look d))
    ∙ ap (replace t) (lifted_by-under n (raise_index 0 (m + count_of d.pushed)) (look d) ∙ ap (lifted_by n) (fun_ext past) ∙ lifted_by-vars n (raise_index 0 (m + d.shift)))
    ∙ replace-vars t (under n (raise_index 0 (m + d.shift)))
    ∙ ap (rename t) (sym (raise_index-under n (m + d.shift)))
    ∙ sym (raise-rename t n (m + d.shift))
  where
    past : (k : ℕ) → look d (k + (m + count_of d.pushed)) ≡ Var (k + (m + d.shift))
    past k =
        ap (look d) (let e : k + (m + count_of d.pushed) ≡ k + m + count_of d.pushed = omega arith in e)
        ∙ look-past d (k + m)
        ∙ ap Var (let e : k + m + d.shift ≡ k + (m + d.shift) = omega arith in e)
