-- Substitutions that do the same to every tree.
use Rattle.std.proofs.Common.{◌≡◌, ℕ, zero, suc, ◌+◌, refl, sym, ◌∙◌, ap, zero-add, arith}
use Rattle.trees.specs.Trees.{Tree, Var, Subst, apply_under, apply, shift_by, push, then, id, up}
use Rattle.trees.specs.Judgements.{trees}
use Rattle.substitution.specs.Forms.{lift, lift_by, drop}
use Rattle.substitution.specs.Action.{look, ActAlike}
use Rattle.substitution.proofs.ThenLaws.{act_alike-from_look, apply-then, apply-id}
use Rattle.substitution.proofs.BinderLaws.{apply_under-lift_by, look-drop}

pub look-from_act_alike : (d e : Subst) → ActAlike d e → (k : ℕ) → look d k ≡ look e k
look-from_act_alike d e h k = h (Var k)

pub act_alike-then : (c d e f : Subst) → ActAlike c d → ActAlike e f → ActAlike (then c e) (then d f)
act_alike-then c d e f g h t =
    apply-then t c e ∙ ap (λ u. apply u e) (g t) ∙ h (apply t d) ∙ sym (apply-then t d f)

pub act_alike-push : (d e : Subst) (a : Tree) → ActAlike d e → ActAlike (push d a) (push e a)
act_alike-push d e a h = act_alike-from_look (push d a) (push e a) entries
  where
    entries : (k : ℕ) → look (push d a) k ≡ look (push e a) k
    entries zero = refl
    entries (suc k) = look-from_act_alike d e h k

pub act_alike-lift : (d e : Subst) → ActAlike d e → ActAlike (lift trees d) (lift trees e)
act_alike-lift d e h = act_alike-push (then d up) (then e up) (Var 0) (act_alike-then d e up up h (λ t. refl))

pub act_alike-lift_by : (n : ℕ) (d e : Subst) → ActAlike d e → ActAlike (lift_by trees n d) (lift_by trees n e)
act_alike-lift_by zero d e h = h
act_alike-lift_by (suc n) d e h = act_alike-lift (lift_by trees n d) (lift_by trees n e) (act_alike-lift_by n d e h)

pub apply_under-act_alike : (t : Tree) (n : ℕ) (d e : Subst) → ActAlike d e → apply_under t n d ≡ apply_under t n e
apply_under-act_alike t n d e h =
    apply_under-lift_by t n d ∙ act_alike-lift_by n d e h t ∙ sym (apply_under-lift_by t n e)

-- d as what it does to the first index, pushed on the rest, acts as d and need not be d
pub act_alike-push_drop : (n : ℕ) (d : Subst) → ActAlike (push (drop trees (suc n) d) (look d n)) (drop trees n d)
act_alike-push_drop n d = act_alike-from_look (push (drop trees (suc n) d) (look d n)) (drop trees n d) entries
  where
    entries : (k : ℕ) → look (push (drop trees (suc n) d) (look d n)) k ≡ look (drop trees n d) k
    entries zero = ap (look d) (sym (zero-add n)) ∙ sym (look-drop n d 0)
    entries (suc k) =
        look-drop (suc n) d k
        ∙ ap (look d) (let e : k + suc n ≡ suc k + n = omega arith in e)
        ∙ sym (look-drop n d (suc k))

pub act_alike-push_shift_by : (n : ℕ) → ActAlike (push (shift_by (suc n)) (Var n)) (shift_by n)
act_alike-push_shift_by n = act_alike-from_look (push (shift_by (suc n)) (Var n)) (shift_by n) entries
  where
    entries : (k : ℕ) → look (push (shift_by (suc n)) (Var n)) k ≡ look (shift_by n) k
    entries zero = ap Var (sym (zero-add n))
    entries (suc k) = ap Var (let e : k + suc n ≡ suc k + n = omega arith in e)

pub apply-push_up : (t : Tree) → apply t (push up (Var 0)) ≡ t
apply-push_up t = act_alike-push_shift_by 0 t ∙ apply-id t

pub push_up-is_not-id : push up (Var 0) ≡ id → ⊥
push_up-is_not-id h = cc (ap (λ d. d.shift) h)
