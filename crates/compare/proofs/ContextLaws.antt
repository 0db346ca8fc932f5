-- Contexts, entry by entry.
use Rattle.std.proofs.Common.{◌≡◌, ◌<◌, ℕ, List, refl, sym, ◌∙◌, ap, ap₂, arith, Option, Some}
use Rattle.trees.specs.Trees.{Tree}
use Rattle.trees.specs.Judgements.{Context, Nil, WithVar, WithName, WithFace}
use Rattle.trees.specs.Things.{Thing, ATree, AContext, Meanings, with_variable, with_a_name, with_a_face}
use Rattle.rows.specs.declared.views.TermId.{TermId}
use Rattle.rows.specs.declared.views.CtxId.{CtxId}
use Rattle.rows.specs.Views.{IsContext, ctx_meaning}
use Rattle.compare.specs.Entries.{Next, NextTrees}
use Rattle.closures.specs.Environments.{Waiting}
use Rattle.rows.specs.declared.views.CtxRow.{CtxRow}
use Rattle.rows.specs.declared.views.CtxRow.TheVariants as row
use Rattle.rows.proofs.OptionLaws.{both-some, one-some}
use Rattle.compare.specs.Pairs.{Asks}
use Rattle.compare.specs.declared.pairs.Pair.{Pair}
use Rattle.compare.proofs.AskingLaws.{Asking, asking-begin, asking-next, asking-end, asking-no}

-- the parts of a row that means a context
pub data Parts (f : Meanings) (o : Option Thing) : CtxRow → Type 0 where
  IsNil : o ≡ Some (AContext Nil) → Parts f o row.Nil
  IsVar : (g : CtxId) (a : TermId) (G : Context) (A : Tree) → f g.0 ≡ Some (AContext G) → f a.0 ≡ Some (ATree A) → o ≡ Some (AContext (WithVar G A)) → Parts f o (row.Var g a)
  IsName : (g : CtxId) (G : Context) → f g.0 ≡ Some (AContext G) → o ≡ Some (AContext (WithName G)) → Parts f o (row.Name g)
  IsFace : (g : CtxId) (a : TermId) (G : Context) (A : Tree) → f g.0 ≡ Some (AContext G) → f a.0 ≡ Some (ATree A) → o ≡ Some (AContext (WithFace G A)) → Parts f o (row.Face g a)

variable-entry : (x y : Thing) (o : Thing) → with_variable x y ≡ Some o → (G : Context) × (A : Tree) × (x ≡ AContext G) × (y ≡ ATree A) × (o ≡ AContext (WithVar G A))
variable-entry (AContext G) (ATree A) o e = (G, A, refl, refl, cc)
variable-entry _ _ o e = cc

face-entry : (x y : Thing) (o : Thing) → with_a_face x y ≡ Some o → (G : Context) × (A : Tree) × (x ≡ AContext G) × (y ≡ ATree A) × (o ≡ AContext (WithFace G A))
face-entry (AContext G) (ATree A) o e = (G, A, refl, refl, cc)
face-entry _ _ o e = cc

name-entry : (x : Thing) (o : Thing) → with_a_name x ≡ Some o → (G : Context) × (x ≡ AContext G) × (o ≡ AContext (WithName G))
name-entry (AContext G) o e = (G, refl, cc)
name-entry _ o e = cc

pub parts : (f : Meanings) (o : Option Thing) (r : CtxRow) → IsContext o → o ≡ ctx_meaning f r → Parts f o r
parts f o row.Nil is e = IsNil e
parts f o (row.Var g a) is e =
    let b = both-some with_variable (f g.0) (f a.0) (AContext is.0) (sym e ∙ is.1) in
    let p = variable-entry b.first b.second (AContext is.0) b.whole in
    IsVar g a p.0 p.1 (b.first_is ∙ ap Some p.2) (b.second_is ∙ ap Some p.3) (is.1 ∙ ap Some p.4)
parts f o (row.Name g) is e =
    let b = one-some with_a_name (f g.0) (AContext is.0) (sym e ∙ is.1) in
    let p = name-entry b.first (AContext is.0) b.whole in
    IsName g p.0 (b.first_is ∙ ap Some p.1) (is.1 ∙ ap Some p.2)
parts f o (row.Face g a) is e =
    let b = both-some with_a_face (f g.0) (f a.0) (AContext is.0) (sym e ∙ is.1) in
    let p = face-entry b.first b.second (AContext is.0) b.whole in
    IsFace g a p.0 p.1 (b.first_is ∙ ap Some p.2) (b.second_is ∙ ap Some p.3) (is.1 ∙ ap Some p.4)

-- the form of an entry
abbrev pub form : CtxRow → ℕ
form row.Nil = 0
form (row.Var g a) = 1
form (row.Name g) = 2
form (row.Face g a) = 3

abbrev pub form_of : Context → ℕ
form_of Nil = 0
form_of (WithVar G A) = 1
form_of (WithName G) = 2
form_of (WithFace G A) = 3

pub parts-form : (f : Meanings) (o : Option Thing) (r : CtxRow) → Parts f o r → (G : Context) × (o ≡ Some (AContext G)) × (form r ≡ form_of G)
parts-form f o _ (IsNil e) = (Nil, e, refl)
parts-form f o _ (IsVar g a G A eg ea e) = (WithVar G A, e, refl)
parts-form f o _ (IsName g G eg e) = (WithName G, e, refl)
parts-form f o _ (IsFace g a G A eg ea e) = (WithFace G A, e, refl)

-- contexts of other forms differ
pub other-form : (f : Meanings) (o p : Option Thing) (x y : CtxRow) → Parts f o x → Parts f p y → (form x ≡ form y → ⊥) → o ≡ p → ⊥
other-form f o p x y l r other e =
    let a = parts-form f o x l in
    let b = parts-form f p y r in
    let s : Some (AContext a.0) ≡ Some (AContext b.0) = sym a.1 ∙ e ∙ b.1 in
    let same : a.0 ≡ b.0 = cc in
    other (a.2 ∙ ap form_of same ∙ sym b.2)

-- a row of another form than a variable's, or a face's
pub no-variable : (r : CtxRow) → ((h : CtxId) (b : TermId) → r ≡ row.Var h b → ⊥) → 1 ≡ form r → ⊥
no-variable (row.Var h b) other e = other h b refl
no-variable row.Nil other e = cc
no-variable (row.Name h) other e = cc
no-variable (row.Face h q) other e = cc

pub no-face : (r : CtxRow) → ((h : CtxId) (q : TermId) → r ≡ row.Face h q → ⊥) → 3 ≡ form r → ⊥
no-face (row.Face h q) other e = other h q refl
no-face row.Nil other e = cc
no-face (row.Var h b) other e = cc
no-face (row.Name h) other e = cc

pub next-variable : (f : Meanings) (l r : ℕ) (g h : CtxId) (a b : TermId) → Parts f (f l) (row.Var g a) → Parts f (f r) (row.Var h b) → g.0 < l → NextTrees f l r g.0 h.0 a.0 b.0
next-variable f l r g h a b (IsVar _ _ G A eg ea e) (IsVar _ _ H B eh eb d) lt = record {
  next = record {
    left_is = (G, eg);
    right_is = (H, eh);
    left_earlier = lt;
    down = λ same.
        let s : Some (AContext (WithVar G A)) ≡ Some (AContext (WithVar H B)) = sym e ∙ same ∙ d in
        let p : G ≡ H = cc in
        let q : A ≡ B = cc in
        (eg ∙ ap (λ K. Some (AContext K)) p ∙ sym eh, ea ∙ ap (λ C. Some (ATree C)) q ∙ sym eb);
    up = λ p q.
        let s : Some (AContext G) ≡ Some (AContext H) = sym eg ∙ p ∙ eh in
        let t : Some (ATree A) ≡ Some (ATree B) = sym ea ∙ q ∙ eb in
        let u : G ≡ H = cc in
        let v : A ≡ B = cc in
        e ∙ ap₂ (λ K C. Some (AContext (WithVar K C))) u v ∙ sym d;
  };
  left_tree = (A, ea);
  right_tree = (B, eb);
}

pub next-face : (f : Meanings) (l r : ℕ) (g h : CtxId) (a b : TermId) → Parts f (f l) (row.Face g a) → Parts f (f r) (row.Face h b) → g.0 < l → NextTrees f l r g.0 h.0 a.0 b.0
next-face f l r g h a b (IsFace _ _ G A eg ea e) (IsFace _ _ H B eh eb d) lt = record {
  next = record {
    left_is = (G, eg);
    right_is = (H, eh);
    left_earlier = lt;
    down = λ same.
        let s : Some (AContext (WithFace G A)) ≡ Some (AContext (WithFace H B)) = sym e ∙ same ∙ d in
        let p : G ≡ H = cc in
        let q : A ≡ B = cc in
        (eg ∙ ap (λ K. Some (AContext K)) p ∙ sym eh, ea ∙ ap (λ C. Some (ATree C)) q ∙ sym eb);
    up = λ p q.
        let s : Some (AContext G) ≡ Some (AContext H) = sym eg ∙ p ∙ eh in
        let t : Some (ATree A) ≡ Some (ATree B) = sym ea ∙ q ∙ eb in
        let u : G ≡ H = cc in
        let v : A ≡ B = cc in
        e ∙ ap₂ (λ K C. Some (AContext (WithFace K C))) u v ∙ sym d;
  };
  left_tree = (A, ea);
  right_tree = (B, eb);
}

pub next-name : (f : Meanings) (l r : ℕ) (g h : CtxId) → Parts f (f l) (row.Name g) → Parts f (f r) (row.Name h) → g.0 < l → Next f l r g.0 h.0 (Unit {0})
next-name f l r g h (IsName _ G eg e) (IsName _ H eh d) lt = record {
  left_is = (G, eg);
  right_is = (H, eh);
  left_earlier = lt;
  down = λ same.
      let s : Some (AContext (WithName G)) ≡ Some (AContext (WithName H)) = sym e ∙ same ∙ d in
      let p : G ≡ H = cc in
      (eg ∙ ap (λ K. Some (AContext K)) p ∙ sym eh, tt);
  up = λ p q.
      let s : Some (AContext G) ≡ Some (AContext H) = sym eg ∙ p ∙ eh in
      let u : G ≡ H = cc in
      e ∙ ap (λ K. Some (AContext (WithName K))) u ∙ sym d;
}

pub both-nil : (f : Meanings) (l r : ℕ) → Parts f (f l) row.Nil → Parts f (f r) row.Nil → f l ≡ f r
both-nil f l r (IsNil e) (IsNil d) = e ∙ sym d

-- what is left of two contexts
pub record ContextWalk (f : Meanings) (known : List (List Waiting)) (goal : Type 0) (old : List Pair) (l r : ℕ) (pairs : List Pair) : Type 0 where
  pub left_is : IsContext (f l)
  pub right_is : IsContext (f r)
  pub asking : Asking f known goal (f l ≡ f r) old pairs

pub context-begin : (f : Meanings) (known : List (List Waiting)) (l r : ℕ) (old : List Pair) → IsContext (f l) → IsContext (f r) → ContextWalk f known (f l ≡ f r) old l r old
context-begin f known l r old left right = record {
  left_is = left;
  right_is = right;
  asking = asking-begin f known (f l ≡ f r) (f l ≡ f r) old (λ e. e) (λ e. e);
}

module _ (f : Meanings) (known : List (List Waiting)) (goal : Type 0) (old : List Pair) (l r : ℕ) (pairs : List Pair) (w : ContextWalk f known goal old l r pairs) where
  pub context-asks : f l ≡ f r → Asks f known goal old pairs
  context-asks e = asking-end f known goal (f l ≡ f r) old pairs w.asking e

  pub context-no : (f l ≡ f r → ⊥) → goal → ⊥
  context-no differ e = asking-no f known goal (f l ≡ f r) old pairs w.asking differ e

  pub context-next : (g h : ℕ) (extra : Type 0) (new : List Pair) → Next f l r g h extra → Asks f known extra pairs new → ContextWalk f known goal old g h new
  context-next g h extra new n a = record {
    left_is = n.left_is;
    right_is = n.right_is;
    asking = asking-next f known goal (f l ≡ f r) old pairs w.asking extra (f g ≡ f h) new (λ e. let d = n.down e in (d.1, d.0)) (λ x e. n.up e x) a;
  }

-- rows that are of no form together are of different forms
pub apart : (x y : CtxRow) → (x ≡ row.Nil → y ≡ row.Nil → ⊥) → ((g h : CtxId) (a b : TermId) → x ≡ row.Var g a → y ≡ row.Var h b → ⊥) → ((g h : CtxId) → x ≡ row.Name g → y ≡ row.Name h → ⊥) → ((g h : CtxId) (a b : TermId) → x ≡ row.Face g a → y ≡ row.Face h b → ⊥) → form x ≡ form y → ⊥
apart row.Nil row.Nil nil var name face e = nil refl refl
apart (row.Var g a) (row.Var h b) nil var name face e = var g h a b refl refl
apart (row.Name g) (row.Name h) nil var name face e = name g h refl refl
apart (row.Face g a) (row.Face h b) nil var name face e = face g h a b refl refl
apart _ _ nil var name face e = omega arith

-- the parts of a row of which the form is known
pub parts-as : (f : Meanings) (o : Option Thing) (x y : CtxRow) → x ≡ y → Parts f o x → Parts f o y
parts-as f o x y e p = rw (← e) p
