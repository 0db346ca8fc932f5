-- Renaming and substitution along functions of the index, and that raising and applying are cases of them.
use Rattle.std.proofs.Common.{◌≡◌, ℕ, zero, suc, ◌+◌, refl, sym, ◌∙◌, ap, ap₂, add-zero, add-suc, arith}
use Rattle.std.proofs.Math.Path.{fun_ext}
use Rattle.trees.specs.declared.op.Op.{Op}
use Rattle.trees.specs.Operators.{binds_of}
use Rattle.trees.specs.Trees.{Tree, Trees, Var, Make, NoTrees, More, Subst, raise_index, raise, raise_kids, entry_under, apply_under, apply_kids}
use Rattle.substitution.specs.Action.{look}

-- a renaming under one binder, whose index stays
abbrev pub beneath : (ℕ → ℕ) → ℕ → ℕ
beneath f zero = zero
beneath f (suc k) = suc (f k)

-- under so many binders
abbrev pub under : ℕ → (ℕ → ℕ) → ℕ → ℕ
under zero f = f
under (suc n) f = beneath (under n f)

abbrev mutual
  pub rename : Tree → (ℕ → ℕ) → Tree
  rename (Var k) f = Var (f k)
  rename (Make op kids) f = Make op (rename_kids kids op 0 f)

  pub rename_kids : Trees → Op → ℕ → (ℕ → ℕ) → Trees
  rename_kids NoTrees op at f = NoTrees
  rename_kids (More t rest) op at f = More (rename t (under (binds_of op at) f)) (rename_kids rest op (suc at) f)

-- a tree for each index, under one binder, whose index stays
abbrev pub lifted : (ℕ → Tree) → ℕ → Tree
lifted d zero = Var zero
lifted d (suc k) = rename (d k) suc

abbrev pub lifted_by : ℕ → (ℕ → Tree) → ℕ → Tree
lifted_by zero d = d
lifted_by (suc n) d = lifted (lifted_by n d)

-- the tree with d k for each index k
abbrev mutual
  pub replace : Tree → (ℕ → Tree) → Tree
  replace (Var k) d = d k
  replace (Make op kids) d = Make op (replace_kids kids op 0 d)

  pub replace_kids : Trees → Op → ℕ → (ℕ → Tree) → Trees
  replace_kids NoTrees op at d = NoTrees
  replace_kids (More t rest) op at d = More (replace t (lifted_by (binds_of op at) d)) (replace_kids rest op (suc at) d)

-- renaming after renaming

beneath-beneath : (f g : ℕ → ℕ) (k : ℕ) → beneath g (beneath f k) ≡ beneath (λ n. g (f n)) k
beneath-beneath f g zero = refl
beneath-beneath f g (suc k) = refl

pub under-under : (n : ℕ) (f g : ℕ → ℕ) → (λ k. under n g (under n f k)) ≡ under n (λ k. g (f k))
under-under zero f g = refl
under-under (suc n) f g = fun_ext (beneath-beneath (under n f) (under n g)) ∙ ap beneath (under-under n f g)

mutual
  pub rename-rename : (t : Tree) (f g : ℕ → ℕ) → rename (rename t f) g ≡ rename t (λ k. g (f k))
  rename-rename (Var k) f g = refl
  rename-rename (Make op kids) f g = ap (Make op) (rename_kids-rename_kids kids op 0 f g)

  pub rename_kids-rename_kids : (ts : Trees) (op : Op) (at : ℕ) (f g : ℕ → ℕ) → rename_kids (rename_kids ts op at f) op at g ≡ rename_kids ts op at (λ k. g (f k))
  rename_kids-rename_kids NoTrees op at f g = refl
  rename_kids-rename_kids (More t rest) op at f g =
      ap₂ More (rename-rename t (under (binds_of op at) f) (under (binds_of op at) g) ∙ ap (rename t) (under-under (binds_of op at) f g)) (rename_kids-rename_kids rest op (suc at) f g)

-- substitution after renaming

lifted-beneath : (f : ℕ → ℕ) (d : ℕ → Tree) (k : ℕ) → lifted d (beneath f k) ≡ lifted (λ n. d (f n)) k
lifted-beneath f d zero = refl
lifted-beneath f d (suc k) = refl

pub lifted_by-under : (n : ℕ) (f : ℕ → ℕ) (d : ℕ → Tree) → (λ k. lifted_by n d (under n f k)) ≡ lifted_by n (λ k. d (f k))
lifted_by-under zero f d = refl
lifted_by-under (suc n) f d = fun_ext (lifted-beneath (under n f) (lifted_by n d)) ∙ ap lifted (lifted_by-under n f d)

mutual
  pub replace-rename : (t : Tree) (f : ℕ → ℕ) (d : ℕ → Tree) → replace (rename t f) d ≡ replace t (λ k. d (f k))
  replace-rename (Var k) f d = refl
  replace-rename (Make op kids) f d = ap (Make op) (replace_kids-rename_kids kids op 0 f d)

  pub replace_kids-rename_kids : (ts : Trees) (op : Op) (at : ℕ) (f : ℕ → ℕ) (d : ℕ → Tree) → replace_kids (rename_kids ts op at f) op at d ≡ replace_kids ts op at (λ k. d (f k))
  replace_kids-rename_kids NoTrees op at f d = refl
  replace_kids-rename_kids (More t rest) op at f d =
      ap₂ More (replace-rename t (under (binds_of op at) f) (lifted_by (binds_of op at) d) ∙ ap (replace t) (lifted_by-under (binds_of op at) f d)) (replace_kids-rename_kids rest op (suc at) f d)

-- renaming after substitution

rename-lifted : (d : ℕ → Tree) (f : ℕ → ℕ) (k : ℕ) → rename (lifted d k) (beneath f) ≡ lifted (λ n. rename (d n) f) k
rename-lifted d f zero = refl
rename-lifted d f (suc k) = rename-rename (d k) suc (beneath f) ∙ sym (rename-rename (d k) f suc)

pub rename-lifted_by : (n : ℕ) (d : ℕ → Tree) (f : ℕ → ℕ) → (λ k. rename (lifted_by n d k) (under n f)) ≡ lifted_by n (λ k. rename (d k) f)
rename-lifted_by zero d f = refl
rename-lifted_by (suc n) d f = fun_ext (rename-lifted (lifted_by n d) (under n f)) ∙ ap lifted (rename-lifted_by n d f)

mutual
  pub rename-replace : (t : Tree) (d : ℕ → Tree) (f : ℕ → ℕ) → rename (replace t d) f ≡ replace t (λ k. rename (d k) f)
  rename-replace (Var k) d f = refl
  rename-replace (Make op kids) d f = ap (Make op) (rename_kids-replace_kids kids op 0 d f)

  pub rename_kids-replace_kids : (ts : Trees) (op : Op) (at : ℕ) (d : ℕ → Tree) (f : ℕ → ℕ) → rename_kids (replace_kids ts op at d) op at f ≡ replace_kids ts op at (λ k. rename (d k) f)
  rename_kids-replace_kids NoTrees op at d f = refl
  rename_kids-replace_kids (More t rest) op at d f =
      ap₂ More (rename-replace t (lifted_by (binds_of op at) d) (under (binds_of op at) f) ∙ ap (replace t) (rename-lifted_by (binds_of op at) d f)) (rename_kids-replace_kids rest op (suc at) d f)

-- substitution after substitution

replace-lifted : (d e : ℕ → Tree) (k : ℕ) → replace (lifted d k) (lifted e) ≡ lifted (λ n. replace (d n) e) k
replace-lifted d e zero = refl
replace-lifted d e (suc k) = replace-rename (d k) suc (lifted e) ∙ sym (rename-replace (d k) e suc)

replace-lifted_by : (n : ℕ) (d e : ℕ → Tree) → (λ k. replace (lifted_by n d k) (lifted_by n e)) ≡ lifted_by n (λ k. replace (d k) e)
replace-lifted_by zero d e = refl
replace-lifted_by (suc n) d e = fun_ext (replace-lifted (lifted_by n d) (lifted_by n e)) ∙ ap lifted (replace-lifted_by n d e)

mutual
  pub replace-replace : (t : Tree) (d e : ℕ → Tree) → replace (replace t d) e ≡ replace t (λ k. replace (d k) e)
  replace-replace (Var k) d e = refl
  replace-replace (Make op kids) d e = ap (Make op) (replace_kids-replace_kids kids op 0 d e)

  pub replace_kids-replace_kids : (ts : Trees) (op : Op) (at : ℕ) (d e : ℕ → Tree) → replace_kids (replace_kids ts op at d) op at e ≡ replace_kids ts op at (λ k. replace (d k) e)
  replace_kids-replace_kids NoTrees op at d e = refl
  replace_kids-replace_kids (More t rest) op at d e =
      ap₂ More (replace-replace t (lifted_by (binds_of op at) d) (lifted_by (binds_of op at) e) ∙ ap (replace t) (replace-lifted_by (binds_of op at) d e)) (replace_kids-replace_kids rest op (suc at) d e)

-- the indices themselves, and renaming as a substitution

lifted-vars : (f : ℕ → ℕ) (k : ℕ) → lifted (λ n. Var (f n)) k ≡ Var (beneath f k)
lifted-vars f zero = refl
lifted-vars f (suc k) = refl

pub lifted_by-vars : (n : ℕ) (f : ℕ → ℕ) → lifted_by n (λ k. Var (f k)) ≡ (λ k. Var (under n f k))
lifted_by-vars zero f = refl
lifted_by-vars (suc n) f = ap lifted (lifted_by-vars n f) ∙ fun_ext (lifted-vars (under n f))

mutual
  pub replace-vars : (t : Tree) (f : ℕ → ℕ) → replace t (λ k. Var (f k)) ≡ rename t f
  replace-vars (Var k) f = refl
  replace-vars (Make op kids) f = ap (Make op) (replace_kids-vars kids op 0 f)

  pub replace_kids-vars : (ts : Trees) (op : Op) (at : ℕ) (f : ℕ → ℕ) → replace_kids ts op at (λ k. Var (f k)) ≡ rename_kids ts op at f
  replace_kids-vars NoTrees op at f = refl
  replace_kids-vars (More t rest) op at f =
      ap₂ More (ap (replace t) (lifted_by-vars (binds_of op at) f) ∙ replace-vars t (under (binds_of op at) f)) (replace_kids-vars rest op (suc at) f)

beneath-same : (k : ℕ) → beneath (λ n. n) k ≡ k
beneath-same zero = refl
beneath-same (suc k) = refl

under-same : (n : ℕ) → under n (λ k. k) ≡ (λ k. k)
under-same zero = refl
under-same (suc n) = ap beneath (under-same n) ∙ fun_ext beneath-same

mutual
  pub rename-same : (t : Tree) → rename t (λ k. k) ≡ t
  rename-same (Var k) = refl
  rename-same (Make op kids) = ap (Make op) (rename_kids-same kids op 0)

  pub rename_kids-same : (ts : Trees) (op : Op) (at : ℕ) → rename_kids ts op at (λ k. k) ≡ ts
  rename_kids-same NoTrees op at = refl
  rename_kids-same (More t rest) op at =
      ap₂ More (ap (rename t) (under-same (binds_of op at)) ∙ rename-same t) (rename_kids-same rest op (suc at))

pub replace-same : (t : Tree) → replace t Var ≡ t
replace-same t = replace-vars t (λ k. k) ∙ rename-same t

-- raising is a renaming

raise_index-suc : (from n k : ℕ) → raise_index (suc from) n k ≡ beneath (raise_index from n) k
raise_index-suc from n zero = refl
raise_index-suc from n (suc k) = refl

pub raise_index-add : (b from n : ℕ) → raise_index (from + b) n ≡ under b (raise_index from n)
raise_index-add zero from n = ap (λ c. raise_index c n) (add-zero from)
raise_index-add (suc b) from n =
    ap (λ c. raise_index c n) (add-suc from b) ∙ fun_ext (raise_index-suc (from + b) n) ∙ ap beneath (raise_index-add b from n)

mutual
  pub raise-rename : (t : Tree) (from n : ℕ) → raise t from n ≡ rename t (raise_index from n)
  raise-rename (Var k) from n = refl
  raise-rename (Make op kids) from n = ap (Make op) (raise_kids-rename_kids kids op 0 from n)

  pub raise_kids-rename_kids : (ts : Trees) (op : Op) (at from n : ℕ) → raise_kids ts op at from n ≡ rename_kids ts op at (raise_index from n)
  raise_kids-rename_kids NoTrees op at from n = refl
  raise_kids-rename_kids (More t rest) op at from n =
      ap₂ More (raise-rename t (from + binds_of op at) n ∙ ap (rename t) (raise_index-add (binds_of op at) from n)) (raise_kids-rename_kids rest op (suc at) from n)

-- applying is a substitution along a function

pub raise-one : (t : Tree) → raise t 0 1 ≡ rename t suc
raise-one t = raise-rename t 0 1 ∙ ap (rename t) (fun_ext next)
  where
    next : (k : ℕ) → k + 1 ≡ suc k
    next k = omega arith

entry_under-suc : (n : ℕ) (d : Subst) (k : ℕ) → entry_under (suc n) d k ≡ lifted (entry_under n d) k
entry_under-suc n d zero = refl
entry_under-suc n d (suc k) = raise-one (entry_under n d k)

pub entry_under-lifted_by : (n : ℕ) (d : Subst) → entry_under n d ≡ lifted_by n (look d)
entry_under-lifted_by zero d = refl
entry_under-lifted_by (suc n) d = fun_ext (entry_under-suc n d) ∙ ap lifted (entry_under-lifted_by n d)

pub lifted_by-add : (b n : ℕ) (d : ℕ → Tree) → lifted_by (n + b) d ≡ lifted_by b (lifted_by n d)
lifted_by-add zero n d = ap (λ c. lifted_by c d) (add-zero n)
lifted_by-add (suc b) n d = ap (λ c. lifted_by c d) (add-suc n b) ∙ ap lifted (lifted_by-add b n d)

mutual
  pub apply_under-replace : (t : Tree) (n : ℕ) (d : Subst) → apply_under t n d ≡ replace t (lifted_by n (look d))
  apply_under-replace (Var k) n d = ap (λ f. f k) (entry_under-lifted_by n d)
  apply_under-replace (Make op kids) n d = ap (Make op) (apply_kids-replace_kids kids op 0 n d)

  pub apply_kids-replace_kids : (ts : Trees) (op : Op) (at n : ℕ) (d : Subst) → apply_kids ts op at n d ≡ replace_kids ts op at (lifted_by n (look d))
  apply_kids-replace_kids NoTrees op at n d = refl
  apply_kids-replace_kids (More t rest) op at n d =
      ap₂ More (apply_under-replace t (n + binds_of op at) d ∙ ap (replace t) (lifted_by-add (binds_of op at) n (look d))) (apply_kids-replace_kids rest op (suc at) n d)
