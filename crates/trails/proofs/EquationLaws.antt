-- Equations of nodes, and the normal forms that they give.
use Rattle.std.proofs.Common.{◌≡◌, ℕ, [], ◌∷◌, Option, Some, None, IsSome, refl, sym, ◌∙◌, ap, ap₂, subst}
use Rattle.trees.specs.declared.op.Op.TheVariants as op
use Rattle.trees.specs.declared.claim.Claim.TheVariants as claim
use Rattle.trees.specs.declared.claim.JudgementForm.TheVariants as form
use Rattle.trees.specs.Trees.{Tree, More, NoTrees}
use Rattle.trees.specs.Language.{TmEq}
use Rattle.trees.specs.Judgements.{Context, Judgement}
use Rattle.trees.specs.Things.{Thing, ATree, AContext, Meanings, Kept, meanings}
use Rattle.trees.specs.Claimed.{judged, claimed}
use Rattle.trees.proofs.Meanings.{meanings-cons}
use Rattle.rows.proofs.OptionLaws.{one-some}
use Rattle.trails.specs.declared.glued.Equation.{Equation}
use Rattle.trails.specs.Kids.{HasKid, kid}
use Rattle.trails.specs.Stations.{Station}
use Rattle.trails.specs.Trails.{Conclusions, AreAlike, Equates, AreNormal, AreBases, unglue, unglued}
use Rattle.trails.specs.Rows.{IsEquation, IsUngluedAs, Widens}

pub equation-is : (f : Meanings) (e : Equation) (A : ℕ) (o : Option Judgement) → claimed f (claim.TmEq e.ctx e.left e.right A) ≡ o → IsSome o → IsEquation f o e
equation-is f e A None is some = cc
equation-is f e A (Some J) is some =
    let o = one-some (judged form.TmEq) (meanings f (e.ctx ∷ e.left ∷ e.right ∷ A ∷ [])) J is in
    let a = meanings-cons f e.ctx (e.left ∷ e.right ∷ A ∷ []) o.first o.first_is in
    let b = meanings-cons f e.left (e.right ∷ A ∷ []) a.rest a.rest_is in
    let c = meanings-cons f e.right (A ∷ []) b.rest b.rest_is in
    let d = meanings-cons f A [] c.rest c.rest_is in
    let end = d.rest_is in
    let last : d.rest ≡ [] = cc in
    let whole = a.whole ∙ ap (λ xs. a.first ∷ xs) (b.whole ∙ ap (λ xs. b.first ∷ xs) (c.whole ∙ ap (λ xs. c.first ∷ xs) (d.whole ∙ ap (λ xs. d.first ∷ xs) last))) in
    from a.first b.first c.first d.first a.first_is b.first_is c.first_is (ap (judged form.TmEq) (sym whole) ∙ o.whole)
  where
    from : (w x y z : Thing) → f e.ctx ≡ Some w → f e.left ≡ Some x → f e.right ≡ Some y → judged form.TmEq (w ∷ x ∷ y ∷ z ∷ []) ≡ Some J → IsEquation f (Some J) e
    from (AContext G) (ATree l) (ATree r) (ATree B) p q s said = record { ctx = G; left = l; right = r; type = B; whole = sym said; ctx_is = p; left_is = q; right_is = s }
    from w x y z p q s said = cc

pub widens-equation : (f : Meanings) (old C : Conclusions) → Widens old C → (node : ℕ) (e : Equation) → IsEquation f (old node) e → IsEquation f (C node) e
widens-equation f old C widens node e i = record {
  ctx = i.ctx;
  left = i.left;
  right = i.right;
  type = i.type;
  whole = widens.keeps node (TmEq i.ctx i.left i.right i.type) i.whole;
  ctx_is = i.ctx_is;
  left_is = i.left_is;
  right_is = i.right_is;
}

pub equation-kept : (f g : Meanings) → Kept f g → (o : Option Judgement) (e : Equation) → IsEquation f o e → IsEquation g o e
equation-kept f g kept o e i = record {
  ctx = i.ctx;
  left = i.left;
  right = i.right;
  type = i.type;
  whole = i.whole;
  ctx_is = kept.keeps e.ctx (AContext i.ctx) i.ctx_is;
  left_is = kept.keeps e.left (ATree i.left) i.left_is;
  right_is = kept.keeps e.right (ATree i.right) i.right_is;
}

pub equates : (f : Meanings) (C : Conclusions) (node : ℕ) (e : Equation) (i : IsEquation f (C node) e) (G : Context) (t : Tree) → AreAlike i.ctx G → i.left ≡ t → Equates C node G t i.right
equates f C node e i G t alike left = record {
  ctx = i.ctx;
  type = i.type;
  alike = alike;
  concluded = i.whole ∙ ap (λ u. Some (TmEq i.ctx u i.right i.type)) left;
}

-- what an equation says is what the node concludes
pub record Agrees (G H : Context) (t u : Tree) : Type 0 where
  pub alike : AreAlike G H
  pub tree : t ≡ u

pub agrees : (f : Meanings) (C : Conclusions) (node : ℕ) (e : Equation) (i : IsEquation f (C node) e) (G : Context) (t x : Tree) → Equates C node G t x → Agrees i.ctx G i.left t
agrees f C node e i G t x q =
    let both : Some (TmEq i.ctx i.left i.right i.type) ≡ Some (TmEq q.ctx t x q.type) = sym i.whole ∙ q.concluded in
    let same : i.ctx ≡ q.ctx = cc in
    record { alike = subst (λ H. AreAlike H G) (sym same) q.alike; tree = cc }

-- a tree that is unglued
pub unglue-kids : (a p T w t : Tree) → a ≡ unglue p T w t → (HasKid op.Unglue 0 a × HasKid op.Unglue 1 a × HasKid op.Unglue 2 a) × (kid 0 a ≡ p) × (kid 1 a ≡ T) × (kid 2 a ≡ w)
unglue-kids a p T w t is =
    let ts = More p (More T (More w (More t NoTrees))) in (
      (record { kids = ts; made = is; there = refl }, record { kids = ts; made = is; there = refl }, record { kids = ts; made = is; there = refl }),
      ap (kid 0) is,
      ap (kid 1) is,
      ap (kid 2) is,
    )

pub bases-tree : (f : Meanings) (C : Conclusions) (m n : ℕ) (e : Equation) (i : IsEquation f (C m) e) (s q : Station) (b : AreBases C m n s q) → i.left ≡ unglue b.face b.types b.maps s.left
bases-tree f C m n e i s q b = (agrees f C m e i s.ctx (unglue b.face b.types b.maps s.left) q.left b.normal.left).tree

pub unglued-as : (a : Tree) (C : Conclusions) (m n : ℕ) (s q : Station) (b : AreBases C m n s q) → a ≡ unglue b.face b.types b.maps s.left → IsUngluedAs a s (unglued b.face b.types b.maps s)
unglued-as a C m n s q b is =
    let h = unglue-kids a b.face b.types b.maps s.left is in
    record {
      face = h.0.0;
      types = h.0.1;
      maps = h.0.2;
      goes = sym (ap (λ p. unglued p (kid 1 a) (kid 2 a) s) h.1 ∙ ap₂ (λ T w. unglued b.face T w s) h.2 h.3);
    }

pub bases-from : (a : Tree) (C : Conclusions) (m n : ℕ) (s t q : Station) → IsUngluedAs a s t → AreNormal C m n t q → AreBases C m n s q
bases-from a C m n s t q is normal = record {
  face = kid 0 a;
  types = kid 1 a;
  maps = kid 2 a;
  normal = subst (λ x. AreNormal C m n x q) is.goes normal;
}

pub bases-normal : (a : Tree) (C : Conclusions) (m n : ℕ) (s t q : Station) → IsUngluedAs a s t → (b : AreBases C m n s q) → a ≡ unglue b.face b.types b.maps s.left → AreNormal C m n t q
bases-normal a C m n s t q is b same =
    let other = unglued-as a C m n s q b same in
    subst (λ x. AreNormal C m n x q) (other.goes ∙ sym is.goes) b.normal
