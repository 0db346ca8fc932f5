-- Terms that the tests of equality accept are equal.
use Rattle.std.proofs.Common.{◌≡◌, ℕ, Bool, true, false, ◌&&◌, ◌==◌, refl, sym, ◌∙◌, ap, ap₂}
use Rattle.std.proofs.lemmas.Bool.{eqb-true}
use denote.Enum.Bare.{same_true}
use Rattle.trees.specs.declared.op.Op.{Op}
use Rattle.trees.specs.contracts.op.Op.{the_type}
use Rattle.trees.specs.Language.{Ctx, Ty, TyEq, Tm, TmEq, Sb, IsFormula, IsFace, Holds, Alike}
use Rattle.patterns.specs.Patterns.{ContextPart, Empty, AddVar, AddName, AddFace}
use Rattle.patterns.specs.Normals.{Normal, Normals, NormalSubst, NormalContext, NVar, NMake, NPart, NEntry, NoNormals, MoreNormals, NShift, NPush, NRest, same_op, same_normal, same_normals, same_normal_subst, is_var, is_entry}
use Rattle.patterns.specs.Tests.{NormalJudgement, NormalCondition, same_normal_context, same_normal_judgement, same_normal_condition}

pub both : (a b : Bool) → (a && b) ≡ true → (a ≡ true) × (b ≡ true)
both true b h = (refl, h)
both false b h = absurd (cc h)

same_op-true : (o p : Op) → same_op o p ≡ true → o ≡ p
same_op-true o p h = same_true the_type tt o p h

mutual
  pub same_normal-true : (t u : Normal) → same_normal t u ≡ true → t ≡ u
  same_normal-true (NVar n) (NVar m) h = ap NVar (eqb-true n m h)
  same_normal-true (NMake o ts) (NMake p us) h =
      let f = both (same_op o p) (same_normals ts us) h in ap₂ NMake (same_op-true o p f.0) (same_normals-true ts us f.1)
  same_normal-true (NPart k s) (NPart l r) h =
      let f = both (k == l) (same_normal_subst s r) h in ap₂ NPart (eqb-true k l f.0) (same_normal_subst-true s r f.1)
  same_normal-true (NEntry k n s) (NEntry l m r) h =
      let f = both (k == l) _ h in
      let g = both (n == m) _ f.1 in
      ap₂ (λ i j. NEntry i j s) (eqb-true k l f.0) (eqb-true n m g.0) ∙ ap (NEntry l m) (same_normal_subst-true s r g.1)
  same_normal-true _ _ h = absurd (cc h)

  pub same_normals-true : (ts us : Normals) → same_normals ts us ≡ true → ts ≡ us
  same_normals-true NoNormals NoNormals h = refl
  same_normals-true (MoreNormals t ts) (MoreNormals u us) h =
      let f = both (same_normal t u) (same_normals ts us) h in ap₂ MoreNormals (same_normal-true t u f.0) (same_normals-true ts us f.1)
  same_normals-true _ _ h = absurd (cc h)

  pub same_normal_subst-true : (s r : NormalSubst) → same_normal_subst s r ≡ true → s ≡ r
  same_normal_subst-true (NShift n) (NShift m) h = ap NShift (eqb-true n m h)
  same_normal_subst-true (NPush s t) (NPush r u) h =
      let f = both (same_normal t u) (same_normal_subst s r) h in ap₂ NPush (same_normal_subst-true s r f.1) (same_normal-true t u f.0)
  same_normal_subst-true (NRest n k s) (NRest m l r) h =
      let f = both (n == m) _ h in
      let g = both (k == l) _ f.1 in
      ap₂ (λ i j. NRest i j s) (eqb-true n m f.0) (eqb-true k l g.0) ∙ ap (NRest m l) (same_normal_subst-true s r g.1)
  same_normal_subst-true _ _ h = absurd (cc h)

pub is_var-true : (n : ℕ) (t : Normal) → is_var n t ≡ true → t ≡ NVar n
is_var-true n (NVar m) h = ap NVar (sym (eqb-true n m h))
is_var-true n _ h = absurd (cc h)

pub is_entry-true : (k n : ℕ) (s : NormalSubst) (t : Normal) → is_entry k n s t ≡ true → t ≡ NEntry k n s
is_entry-true k n s (NEntry l m r) h = sym (same_normal-true (NEntry k n s) (NEntry l m r) h)
is_entry-true k n s _ h = absurd (cc h)

pub same_normal_context-true : (G H : NormalContext) → same_normal_context G H ≡ true → G ≡ H
same_normal_context-true (ContextPart k) (ContextPart l) h = ap ContextPart (eqb-true k l h)
same_normal_context-true Empty Empty h = refl
same_normal_context-true (AddVar G A) (AddVar H B) h =
    let f = both (same_normal A B) (same_normal_context G H) h in ap₂ AddVar (same_normal_context-true G H f.1) (same_normal-true A B f.0)
same_normal_context-true (AddName G) (AddName H) h = ap AddName (same_normal_context-true G H h)
same_normal_context-true (AddFace G p) (AddFace H q) h =
    let f = both (same_normal p q) (same_normal_context G H) h in ap₂ AddFace (same_normal_context-true G H f.1) (same_normal-true p q f.0)
same_normal_context-true _ _ h = absurd (cc h)

pub same_normal_judgement-true : (i j : NormalJudgement) → same_normal_judgement i j ≡ true → i ≡ j
same_normal_judgement-true (Ctx G) (Ctx H) h = ap Ctx (same_normal_context-true G H h)
same_normal_judgement-true (Ty G A) (Ty H B) h =
    let f = both (same_normal_context G H) _ h in ap₂ Ty (same_normal_context-true G H f.0) (same_normal-true A B f.1)
same_normal_judgement-true (TyEq G A X) (TyEq H B Y) h =
    let f = both (same_normal_context G H) _ h in
    let g = both (same_normal A B) _ f.1 in
    ap₂ (λ C T. TyEq C T X) (same_normal_context-true G H f.0) (same_normal-true A B g.0) ∙ ap (TyEq H B) (same_normal-true X Y g.1)
same_normal_judgement-true (Tm G a A) (Tm H b B) h =
    let f = both (same_normal_context G H) _ h in
    let g = both (same_normal a b) _ f.1 in
    ap₂ (λ C t. Tm C t A) (same_normal_context-true G H f.0) (same_normal-true a b g.0) ∙ ap (Tm H b) (same_normal-true A B g.1)
same_normal_judgement-true (TmEq G a x A) (TmEq H b y B) h =
    let f = both (same_normal_context G H) _ h in
    let g = both (same_normal a b) _ f.1 in
    let k = both (same_normal x y) _ g.1 in
    ap₂ (λ C t. TmEq C t x A) (same_normal_context-true G H f.0) (same_normal-true a b g.0) ∙ ap₂ (TmEq H b) (same_normal-true x y k.0) (same_normal-true A B k.1)
same_normal_judgement-true (Sb G d X) (Sb H e Y) h =
    let f = both (same_normal_context G H) _ h in
    let g = both (same_normal_subst d e) _ f.1 in
    ap₂ (λ C s. Sb C s X) (same_normal_context-true G H f.0) (same_normal_subst-true d e g.0) ∙ ap (Sb H e) (same_normal_context-true X Y g.1)
same_normal_judgement-true _ _ h = absurd (cc h)

pub same_normal_condition-true : (c k : NormalCondition) → same_normal_condition c k ≡ true → c ≡ k
same_normal_condition-true (IsFormula G r) (IsFormula H s) h =
    let f = both (same_normal_context G H) _ h in ap₂ IsFormula (same_normal_context-true G H f.0) (same_normal-true r s f.1)
same_normal_condition-true (IsFace G p) (IsFace H q) h =
    let f = both (same_normal_context G H) _ h in ap₂ IsFace (same_normal_context-true G H f.0) (same_normal-true p q f.1)
same_normal_condition-true (Holds G p) (Holds H q) h =
    let f = both (same_normal_context G H) _ h in ap₂ Holds (same_normal_context-true G H f.0) (same_normal-true p q f.1)
same_normal_condition-true (Alike G d e) (Alike H x y) h =
    let f = both (same_normal_context G H) _ h in
    let g = both (same_normal_subst d x) _ f.1 in
    ap₂ (λ C s. Alike C s e) (same_normal_context-true G H f.0) (same_normal_subst-true d x g.0) ∙ ap (Alike H x) (same_normal_subst-true e y g.1)
same_normal_condition-true _ _ h = absurd (cc h)
