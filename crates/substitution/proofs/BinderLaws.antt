-- The laws of lifting, weakening and dropping, and of a tree for the innermost index.
use Rattle.std.proofs.Common.{◌≡◌, ℕ, zero, suc, ◌+◌, refl, sym, ◌∙◌, ap, add-zero, add-suc, arith}
use Rattle.std.proofs.Math.Path.{fun_ext}
use Rattle.trees.specs.Trees.{Tree, Var, Subst, raise, apply_under, apply, shift_by, push, then, id, up}
use Rattle.trees.specs.Judgements.{trees}
use Rattle.substitution.specs.Forms.{at, weaken, lift, lift_by, drop}
use Rattle.substitution.specs.Action.{look}
use Rattle.substitution.proofs.Maps.{lifted, lifted_by, replace, raise-one, apply_under-replace}
use Rattle.substitution.proofs.ThenLaws.{apply-replace, apply-apply, apply-id, apply-shift_by, look-then, then-assoc, then-id, id-then}

-- the lifted substitution

pub weaken-raise : (t : Tree) → weaken trees t ≡ raise t 0 1
weaken-raise t = apply-shift_by t 1

look-lift : (d : Subst) (k : ℕ) → look (lift trees d) k ≡ lifted (look d) k
look-lift d zero = refl
look-lift d (suc k) = look-then d up k ∙ apply-shift_by (look d k) 1 ∙ raise-one (look d k)

pub look-lift_by : (n : ℕ) (d : Subst) → look (lift_by trees n d) ≡ lifted_by n (look d)
look-lift_by zero d = refl
look-lift_by (suc n) d = fun_ext (look-lift (lift_by trees n d)) ∙ ap lifted (look-lift_by n d)

pub apply_under-lift_by : (t : Tree) (n : ℕ) (d : Subst) → apply_under t n d ≡ apply t (lift_by trees n d)
apply_under-lift_by t n d =
    apply_under-replace t n d ∙ ap (replace t) (sym (look-lift_by n d)) ∙ sym (apply-replace t (lift_by trees n d))

pub apply_under-one : (t : Tree) (d : Subst) → apply_under t 1 d ≡ apply t (lift trees d)
apply_under-one t d = apply_under-lift_by t 1 d

pub lift-then : (d e : Subst) → lift trees (then d e) ≡ then (lift trees d) (lift trees e)
lift-then d e =
    ap (λ r. push r (Var 0))
    (then-assoc d e up
    ∙ ap (then d) (sym (id-then (then e up)))
    ∙ sym (then-assoc d up (lift trees e)))

pub lift_by-then : (n : ℕ) (d e : Subst) → lift_by trees n (then d e) ≡ then (lift_by trees n d) (lift_by trees n e)
lift_by-then zero d e = refl
lift_by-then (suc n) d e = ap (lift trees) (lift_by-then n d e) ∙ lift-then (lift_by trees n d) (lift_by trees n e)

pub lift_by-add : (b n : ℕ) (d : Subst) → lift_by trees (n + b) d ≡ lift_by trees b (lift_by trees n d)
lift_by-add zero n d = ap (λ c. lift_by trees c d) (add-zero n)
lift_by-add (suc b) n d = ap (λ c. lift_by trees c d) (add-suc n b) ∙ ap (lift trees) (lift_by-add b n d)

pub apply_under-apply_under : (t : Tree) (n : ℕ) (d e : Subst) → apply_under (apply_under t n d) n e ≡ apply_under t n (then d e)
apply_under-apply_under t n d e =
    apply_under-lift_by (apply_under t n d) n e
    ∙ ap (λ u. apply u (lift_by trees n e)) (apply_under-lift_by t n d)
    ∙ apply-apply t (lift_by trees n d) (lift_by trees n e)
    ∙ ap (apply t) (sym (lift_by-then n d e))
    ∙ sym (apply_under-lift_by t n (then d e))

-- one tree for the innermost index

pub lift-then-push : (d e : Subst) (a : Tree) → then (lift trees d) (push e a) ≡ push (then d e) a
lift-then-push d e a = ap (λ r. push r a) (then-assoc d up (push e a) ∙ ap (then d) (id-then e))

pub at-apply_lift : (t a : Tree) (d : Subst) → at trees (apply t (lift trees d)) a ≡ apply t (push d a)
at-apply_lift t a d =
    apply-apply t (lift trees d) (push id a) ∙ ap (apply t) (lift-then-push d id a ∙ ap (λ r. push r a) (then-id d))

pub apply-at : (t a : Tree) (d : Subst) → apply (at trees t a) d ≡ at trees (apply t (lift trees d)) (apply a d)
apply-at t a d =
    apply-apply t (push id a) d
    ∙ ap (λ r. apply t (push r (apply a d))) (id-then d)
    ∙ sym (at-apply_lift t (apply a d) d)

pub apply-weaken : (t a : Tree) (d : Subst) → apply (weaken trees t) (push d a) ≡ apply t d
apply-weaken t a d = apply-apply t up (push d a) ∙ ap (apply t) (id-then d)

pub at-weaken : (t a : Tree) → at trees (weaken trees t) a ≡ t
at-weaken t a = apply-weaken t a id ∙ apply-id t

pub weaken-apply : (t : Tree) (d : Subst) → weaken trees (apply t d) ≡ apply (weaken trees t) (lift trees d)
weaken-apply t d =
    apply-apply t d up ∙ ap (apply t) (sym (id-then (then d up))) ∙ sym (apply-apply t up (lift trees d))

-- dropping

pub look-drop : (n : ℕ) (d : Subst) (k : ℕ) → look (drop trees n d) k ≡ look d (k + n)
look-drop n d k = look-then (shift_by n) d k

pub drop-zero : (d : Subst) → drop trees 0 d ≡ d
drop-zero d = id-then d

pub drop-drop : (n m : ℕ) (d : Subst) → drop trees n (drop trees m d) ≡ drop trees (n + m) d
drop-drop n m d =
    sym (then-assoc (shift_by n) (shift_by m) d) ∙ ap (λ k. then (shift_by k) d) (let e : m + n ≡ n + m = omega arith in e)

pub drop-then : (n : ℕ) (d e : Subst) → drop trees n (then d e) ≡ then (drop trees n d) e
drop-then n d e = sym (then-assoc (shift_by n) d e)
