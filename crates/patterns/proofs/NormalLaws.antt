-- Filling in the unknown parts keeps weakening, trimming and substitution.
use Rattle.std.proofs.Common.{◌≡◌, ℕ, zero, suc, ◌+◌, ◌-◌, ◌<◌, ◌≤◌, ◌⊎◌, Bool, true, false, cond, refl, sym, ◌∙◌, ap, ap₂, inl, inr, zero-add, arith}
use Rattle.std.proofs.Math.Path.{fun_ext}
use Rattle.trees.specs.declared.op.Op.{Op}
use Rattle.trees.specs.Operators.{binds_of}
use Rattle.trees.specs.Trees.{Tree, Var, Make, More, Subst, raise_index, apply, apply_kids, apply_under, shift_by, push, then, up}
use Rattle.trees.specs.Judgements.{trees}
use Rattle.substitution.specs.Forms.{drop}
use Rattle.substitution.specs.Action.{look, ActAlike}
use Rattle.substitution.proofs.Maps.{rename, rename_kids, lifted, lifted_by, replace, rename-replace, raise_index-add, apply_under-replace}
use Rattle.substitution.proofs.ThenLaws.{apply-replace, apply-apply, look-then, then-assoc, id-then, up-then-push}
use Rattle.substitution.proofs.BinderLaws.{look-drop, drop-drop}
use Rattle.substitution.proofs.ActionLaws.{act_alike-push, act_alike-then, act_alike-push_drop, act_alike-push_shift_by}
use Rattle.substitution.proofs.RaiseLaws.{raise_index-below, raise_index-above}
use Rattle.patterns.specs.Values.{Parts}
use Rattle.patterns.specs.Normals.{Normal, Normals, NormalSubst, NVar, NMake, NPart, NEntry, NoNormals, MoreNormals, NShift, NPush, NRest, is_var, is_entry, push_trimmed, trimmed, shift_past, weaken_from, weaken_kids, weaken_subst, lift_normal, look_normal, drop_one, drop_normal, apply_normal, apply_normals, after}
use Rattle.patterns.specs.Fillings.{filled, filled_kids, filled_subst}
use Rattle.patterns.proofs.SameLaws.{is_var-true, is_entry-true}

-- weakening

look-shift_past : (v : Parts trees) (m n c k : ℕ) → (m ≡ 0) ⊎ (c ≡ m + n) → c ≤ m + n → look (filled_subst v (shift_past m n)) k ≡ Var (raise_index c 1 (k + n))
look-shift_past v zero n c k h le =
    ap Var ((let e : k + suc n ≡ k + n + 1 = omega arith in e) ∙ sym (raise_index-above c 1 (k + n) (omega arith)))
look-shift_past v (suc m) n c zero h le =
    ap Var ((let e : n ≡ 0 + n = omega arith in e) ∙ sym (raise_index-below c 1 (0 + n) (below h)))
  where
    below : (suc m ≡ 0) ⊎ (c ≡ suc m + n) → 0 + n < c
    below (inl e) = absurd (omega arith)
    below (inr e) = omega arith
look-shift_past v (suc m) n c (suc k) h le =
    look-shift_past v m (suc n) c k (further h) (omega arith) ∙ ap (λ j. Var (raise_index c 1 j)) (let e : k + suc n ≡ suc k + n = omega arith in e)
  where
    further : (suc m ≡ 0) ⊎ (c ≡ suc m + n) → (m ≡ 0) ⊎ (c ≡ m + suc n)
    further (inl e) = absurd (omega arith)
    further (inr e) = inr (omega arith)

by_difference : (c n : ℕ) → (c - n ≡ 0) ⊎ (c ≡ c - n + n)
by_difference c n = grind arith

weakened-apply : (c : ℕ) (t : Tree) (d e : Subst) → ((k : ℕ) → look d k ≡ rename (look e k) (raise_index c 1)) → apply t d ≡ rename (apply t e) (raise_index c 1)
weakened-apply c t d e h =
    apply-replace t d
    ∙ ap (replace t) (fun_ext h)
    ∙ sym (rename-replace t (look e) (raise_index c 1))
    ∙ ap (λ u. rename u (raise_index c 1)) (sym (apply-replace t e))

weakened-then : (c : ℕ) (x d e : Subst) → ((k : ℕ) → look d k ≡ rename (look e k) (raise_index c 1)) → (k : ℕ) → look (then x d) k ≡ rename (look (then x e) k) (raise_index c 1)
weakened-then c x d e h k =
    look-then x d k ∙ weakened-apply c (look x k) d e h ∙ ap (λ u. rename u (raise_index c 1)) (sym (look-then x e k))

mutual
  pub filled-weaken_from : (v : Parts trees) (c : ℕ) (t : Normal) → filled v (weaken_from c t) ≡ rename (filled v t) (raise_index c 1)
  filled-weaken_from v c (NVar k) = refl
  filled-weaken_from v c (NMake op ts) = ap (Make op) (filled-weaken_kids v c op 0 ts)
  filled-weaken_from v c (NPart k s) = weakened-apply c (v.tree k) (filled_subst v (weaken_subst c s)) (filled_subst v s) (look-weaken_subst v c s)
  filled-weaken_from v c (NEntry k n s) = weakened-apply c (look (v.subst k) n) (filled_subst v (weaken_subst c s)) (filled_subst v s) (look-weaken_subst v c s)

  pub filled-weaken_kids : (v : Parts trees) (c : ℕ) (op : Op) (at : ℕ) (ts : Normals) → filled_kids v (weaken_kids c op at ts) ≡ rename_kids (filled_kids v ts) op at (raise_index c 1)
  filled-weaken_kids v c op at NoNormals = refl
  filled-weaken_kids v c op at (MoreNormals t ts) =
      ap₂ More (filled-weaken_from v (c + binds_of op at) t ∙ ap (rename (filled v t)) (raise_index-add (binds_of op at) c 1)) (filled-weaken_kids v c op (suc at) ts)

  pub look-weaken_subst : (v : Parts trees) (c : ℕ) (s : NormalSubst) (k : ℕ) → look (filled_subst v (weaken_subst c s)) k ≡ rename (look (filled_subst v s) k) (raise_index c 1)
  look-weaken_subst v c (NShift n) k = look-shift_past v (c - n) n c k (by_difference c n) (omega arith)
  look-weaken_subst v c (NPush s t) zero = filled-weaken_from v c t
  look-weaken_subst v c (NPush s t) (suc k) = look-weaken_subst v c s k
  look-weaken_subst v c (NRest n p s) k = weakened-then c (drop trees n (v.subst p)) (filled_subst v (weaken_subst c s)) (filled_subst v s) (look-weaken_subst v c s) k

-- trimming

pushed-if_var : (v : Parts trees) (n : ℕ) (t : Normal) (b : Bool) → is_var n t ≡ b → ActAlike (filled_subst v (cond b (NShift n) (NPush (NShift (suc n)) t))) (push (shift_by (suc n)) (filled v t))
pushed-if_var v n t true h u = sym (act_alike-push_shift_by n u) ∙ ap (λ w. apply u (push (shift_by (suc n)) (filled v w))) (sym (is_var-true n t h))
pushed-if_var v n t false h u = refl

pushed-rest : (v : Parts trees) (n k : ℕ) (s : NormalSubst) → ActAlike (filled_subst v (NRest n k s)) (push (filled_subst v (NRest (suc n) k s)) (filled v (NEntry k n s)))
pushed-rest v n k s u =
    sym (act_alike-then (push (drop trees (suc n) (v.subst k)) (look (v.subst k) n)) (drop trees n (v.subst k)) (filled_subst v s) (filled_subst v s) (act_alike-push_drop n (v.subst k)) (λ w. refl) u)

pushed-if_entry : (v : Parts trees) (n k : ℕ) (s : NormalSubst) (t : Normal) (b : Bool) → is_entry k n s t ≡ b → ActAlike (filled_subst v (cond b (NRest n k s) (NPush (NRest (suc n) k s) t))) (push (filled_subst v (NRest (suc n) k s)) (filled v t))
pushed-if_entry v n k s t true h u = pushed-rest v n k s u ∙ ap (λ w. apply u (push (filled_subst v (NRest (suc n) k s)) (filled v w))) (sym (is_entry-true k n s t h))
pushed-if_entry v n k s t false h u = refl

filled-push_trimmed : (v : Parts trees) (s : NormalSubst) (t : Normal) → ActAlike (filled_subst v (push_trimmed s t)) (push (filled_subst v s) (filled v t))
filled-push_trimmed v (NShift zero) t u = refl
filled-push_trimmed v (NShift (suc n)) t u = pushed-if_var v n t (is_var n t) refl u
filled-push_trimmed v (NPush s a) t u = refl
filled-push_trimmed v (NRest zero k s) t u = refl
filled-push_trimmed v (NRest (suc n) k s) t u = pushed-if_entry v n k s t (is_entry k n s t) refl u

pub filled-trimmed : (v : Parts trees) (s : NormalSubst) → ActAlike (filled_subst v (trimmed s)) (filled_subst v s)
filled-trimmed v (NShift n) u = refl
filled-trimmed v (NPush s t) u =
    filled-push_trimmed v (trimmed s) t u ∙ act_alike-push (filled_subst v (trimmed s)) (filled_subst v s) (filled v t) (filled-trimmed v s) u
filled-trimmed v (NRest n k s) u =
    act_alike-then (drop trees n (v.subst k)) (drop trees n (v.subst k)) (filled_subst v (trimmed s)) (filled_subst v s) (λ w. refl) (filled-trimmed v s) u

-- substitution

filled-look_normal : (v : Parts trees) (d : NormalSubst) (k : ℕ) → filled v (look_normal d k) ≡ look (filled_subst v d) k
filled-look_normal v (NShift n) k = refl
filled-look_normal v (NPush d t) zero = refl
filled-look_normal v (NPush d t) (suc k) = filled-look_normal v d k
filled-look_normal v (NRest n p s) k =
    filled-trimmed v s (look (v.subst p) (k + n))
    ∙ ap (λ u. apply u (filled_subst v s)) (sym (look-drop n (v.subst p) k))
    ∙ sym (look-then (drop trees n (v.subst p)) (filled_subst v s) k)

filled-drop_one : (v : Parts trees) (d : NormalSubst) → filled_subst v (drop_one d) ≡ then up (filled_subst v d)
filled-drop_one v (NShift n) = ap shift_by (let e : suc n ≡ n + 1 = omega arith in e)
filled-drop_one v (NPush d t) = sym (up-then-push (filled_subst v d) (filled v t))
filled-drop_one v (NRest n k s) =
    ap (λ x. then x (filled_subst v s)) (one_more n (v.subst k)) ∙ then-assoc up (drop trees n (v.subst k)) (filled_subst v s)
  where
    one_more : (n : ℕ) (x : Subst) → drop trees (suc n) x ≡ then up (drop trees n x)
    one_more n x = ap (λ j. then (shift_by j) x) (let e : suc n ≡ n + 1 = omega arith in e) ∙ then-assoc up (shift_by n) x

filled-drop_normal : (v : Parts trees) (n : ℕ) (d : NormalSubst) → filled_subst v (drop_normal n d) ≡ drop trees n (filled_subst v d)
filled-drop_normal v zero d = sym (id-then (filled_subst v d))
filled-drop_normal v (suc n) d =
    filled-drop_normal v n (drop_one d)
    ∙ ap (drop trees n) (filled-drop_one v d)
    ∙ drop-drop n 1 (filled_subst v d)
    ∙ ap (λ j. drop trees j (filled_subst v d)) (let e : n + 1 ≡ suc n = omega arith in e)

look-lift_normal_one : (v : Parts trees) (d : NormalSubst) (k : ℕ) → look (filled_subst v (NPush (weaken_subst 0 d) (NVar 0))) k ≡ lifted (look (filled_subst v d)) k
look-lift_normal_one v d zero = refl
look-lift_normal_one v d (suc k) = look-weaken_subst v 0 d k ∙ ap (rename (look (filled_subst v d) k)) (fun_ext next)
  where
    next : (k : ℕ) → k + 1 ≡ suc k
    next k = omega arith

look-lift_normal : (v : Parts trees) (b : ℕ) (d : NormalSubst) → look (filled_subst v (lift_normal b d)) ≡ lifted_by b (look (filled_subst v d))
look-lift_normal v zero d = refl
look-lift_normal v (suc b) d = fun_ext (look-lift_normal_one v (lift_normal b d)) ∙ ap lifted (look-lift_normal v b d)

apply-lift_normal : (v : Parts trees) (b : ℕ) (d : NormalSubst) (t : Tree) → apply t (filled_subst v (lift_normal b d)) ≡ apply_under t (0 + b) (filled_subst v d)
apply-lift_normal v b d t =
    apply-replace t (filled_subst v (lift_normal b d))
    ∙ ap (replace t) (look-lift_normal v b d)
    ∙ sym (apply_under-replace t b (filled_subst v d))
    ∙ ap (λ n. apply_under t n (filled_subst v d)) (sym (zero-add b))

mutual
  pub filled-apply_normal : (v : Parts trees) (d : NormalSubst) (t : Normal) → filled v (apply_normal d t) ≡ apply (filled v t) (filled_subst v d)
  filled-apply_normal v d (NVar k) = filled-look_normal v d k
  filled-apply_normal v d (NMake op ts) = ap (Make op) (filled-apply_normals v d op 0 ts)
  filled-apply_normal v d (NPart k s) =
      filled-trimmed v (after d s) (v.tree k) ∙ ap (apply (v.tree k)) (filled-after v d s) ∙ sym (apply-apply (v.tree k) (filled_subst v s) (filled_subst v d))
  filled-apply_normal v d (NEntry k n s) =
      filled-trimmed v (after d s) (look (v.subst k) n) ∙ ap (apply (look (v.subst k) n)) (filled-after v d s) ∙ sym (apply-apply (look (v.subst k) n) (filled_subst v s) (filled_subst v d))

  pub filled-apply_normals : (v : Parts trees) (d : NormalSubst) (op : Op) (at : ℕ) (ts : Normals) → filled_kids v (apply_normals d op at ts) ≡ apply_kids (filled_kids v ts) op at 0 (filled_subst v d)
  filled-apply_normals v d op at NoNormals = refl
  filled-apply_normals v d op at (MoreNormals t ts) =
      ap₂ More (filled-apply_normal v (lift_normal (binds_of op at) d) t ∙ apply-lift_normal v (binds_of op at) d (filled v t)) (filled-apply_normals v d op (suc at) ts)

  pub filled-after : (v : Parts trees) (d s : NormalSubst) → filled_subst v (after d s) ≡ then (filled_subst v s) (filled_subst v d)
  filled-after v d (NShift n) = filled-drop_normal v n d
  filled-after v d (NPush s t) = ap₂ push (filled-after v d s) (filled-apply_normal v d t)
  filled-after v d (NRest n k s) =
      ap (then (drop trees n (v.subst k))) (filled-after v d s) ∙ sym (then-assoc (drop trees n (v.subst k)) (filled_subst v s) (filled_subst v d))
