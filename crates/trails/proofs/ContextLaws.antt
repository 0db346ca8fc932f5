-- Contexts by their last entries.
use Rattle.std.proofs.Common.{◌≡◌, ℕ, Some, refl, sym, ◌∙◌, ap, subst, ◌↔◌}
use Rattle.std.specs.Prelude.{option_and_then}
use Rattle.trees.specs.Trees.{Tree}
use Rattle.trees.specs.Judgements.{Context, Nil, WithVar, WithName, WithFace}
use Rattle.trees.specs.Things.{Thing, ATree, AContext, Meanings, Kept, both, with_variable, with_a_name, with_a_face}
use Rattle.rows.proofs.OptionLaws.{both-some, one-some}
use Rattle.rows.specs.declared.views.CtxId.{CtxId}
use Rattle.rows.specs.declared.views.CtxRow.{CtxRow}
use Rattle.rows.specs.declared.views.CtxRow.TheVariants as ctx
use Rattle.rows.specs.declared.views.TermId.{TermId}
use Rattle.rows.specs.Views.{ctx_meaning}
use Rattle.trails.specs.Trails.{AreAlike, SameFaces}
use Rattle.trails.specs.Rows.{AreBefore}

-- which entry is last
pub data Last : Type 0 where
  Empty : Last
  Variable : Last
  Name : Last
  Face : Last

abbrev pub last : Context → Last
last Nil = Empty
last (WithVar G A) = Variable
last (WithName G) = Name
last (WithFace G p) = Face

abbrev pub row_last : CtxRow → Last
row_last ctx.Nil = Empty
row_last (ctx.Var G A) = Variable
row_last (ctx.Name G) = Name
row_last (ctx.Face G p) = Face

pub alike-last : (G H : Context) → AreAlike G H → last G ≡ last H
alike-last Nil Nil a = refl
alike-last (WithVar G A) (WithVar H B) a = refl
alike-last (WithName G) (WithName H) a = refl
alike-last (WithFace G p) (WithFace H q) a = refl
alike-last G H a = absurd a

-- a context with an entry, by the rows of what is before it and of the entry
pub record WithEntry (f : Meanings) (make : Context → Tree → Context) (j k : ℕ) (G : Context) : Type 0 where
  pub before : Context
  pub entry : Tree
  pub before_is : f j ≡ Some (AContext before)
  pub entry_is : f k ≡ Some (ATree entry)
  pub whole : G ≡ make before entry

pub with-variable : (f : Meanings) (j k : ℕ) (G : Context) → both with_variable (f j) (f k) ≡ Some (AContext G) → WithEntry f WithVar j k G
with-variable f j k G e =
    let b = both-some with_variable (f j) (f k) (AContext G) e in
    from b.first b.second b.first_is b.second_is b.whole
  where
    from : (x y : Thing) → f j ≡ Some x → f k ≡ Some y → with_variable x y ≡ Some (AContext G) → WithEntry f WithVar j k G
    from (AContext H) (ATree t) p q whole = record { before = H; entry = t; before_is = p; entry_is = q; whole = cc }
    from x y p q whole = cc

pub with-face : (f : Meanings) (j k : ℕ) (G : Context) → both with_a_face (f j) (f k) ≡ Some (AContext G) → WithEntry f WithFace j k G
with-face f j k G e =
    let b = both-some with_a_face (f j) (f k) (AContext G) e in
    from b.first b.second b.first_is b.second_is b.whole
  where
    from : (x y : Thing) → f j ≡ Some x → f k ≡ Some y → with_a_face x y ≡ Some (AContext G) → WithEntry f WithFace j k G
    from (AContext H) (ATree t) p q whole = record { before = H; entry = t; before_is = p; entry_is = q; whole = cc }
    from x y p q whole = cc

pub record Named (f : Meanings) (j : ℕ) (G : Context) : Type 0 where
  pub before : Context
  pub before_is : f j ≡ Some (AContext before)
  pub whole : G ≡ WithName before

pub with-name : (f : Meanings) (j : ℕ) (G : Context) → option_and_then with_a_name (f j) ≡ Some (AContext G) → Named f j G
with-name f j G e =
    let o = one-some with_a_name (f j) (AContext G) e in
    from o.first o.first_is o.whole
  where
    from : (x : Thing) → f j ≡ Some x → with_a_name x ≡ Some (AContext G) → Named f j G
    from (AContext H) p whole = record { before = H; before_is = p; whole = cc }
    from x p whole = cc

pub row-last : (f : Meanings) (row : CtxRow) (G : Context) → ctx_meaning f row ≡ Some (AContext G) → last G ≡ row_last row
row-last f ctx.Nil G e = let same : Nil ≡ G = cc in ap last (sym same)
row-last f (ctx.Var g a) G e = ap last (with-variable f g.0 a.0 G e).whole
row-last f (ctx.Name g) G e = ap last (with-name f g.0 G e).whole
row-last f (ctx.Face g p) G e = ap last (with-face f g.0 p.0 G e).whole

-- what is left to compare

pub apart : (f : Meanings) (l r : CtxRow) (G H : Context) → ctx_meaning f l ≡ Some (AContext G) → ctx_meaning f r ≡ Some (AContext H) → (row_last l ≡ row_last r → ⊥) → AreAlike G H → ⊥
apart f l r G H left right differ alike = differ (sym (row-last f l G left) ∙ alike-last G H alike ∙ row-last f r H right)

pub not-name : (r : CtxRow) → ((k : CtxId) → r ≡ ctx.Name k → ⊥) → Name ≡ row_last r → ⊥
not-name (ctx.Name k) never e = never k refl
not-name r never e = cc

pub not-variable : (r : CtxRow) → ((k : CtxId) (a : TermId) → r ≡ ctx.Var k a → ⊥) → Variable ≡ row_last r → ⊥
not-variable (ctx.Var k a) never e = never k a refl
not-variable r never e = cc

pub not-face : (r : CtxRow) → ((k : CtxId) (p : TermId) → r ≡ ctx.Face k p → ⊥) → Face ≡ row_last r → ⊥
not-face (ctx.Face k p) never e = never k p refl
not-face r never e = cc

pub before-faces : (f g : Meanings) → Kept f g → (j k a b : ℕ) (G H : Context) (l : WithEntry f WithFace j a G) (r : WithEntry f WithFace k b H) → SameFaces l.before l.entry r.entry → AreBefore g j k G H
before-faces f g kept j k a b G H l r same =
    subst (λ K. AreBefore g j k K H) (sym l.whole)
    (subst (AreBefore g j k (WithFace l.before l.entry)) (sym r.whole) record {
      left_before = l.before;
      right_before = r.before;
      left_is = kept.keeps _ _ l.before_is;
      right_is = kept.keeps _ _ r.before_is;
      same = (λ x. x.0, λ x. (x, same));
    })

pub apart-faces : (f : Meanings) (j k a b : ℕ) (G H : Context) (l : WithEntry f WithFace j a G) (r : WithEntry f WithFace k b H) → (SameFaces l.before l.entry r.entry → ⊥) → AreAlike G H → ⊥
apart-faces f j k a b G H l r differ alike =
    let both = subst (λ K. AreAlike K (WithFace r.before r.entry)) l.whole (subst (AreAlike G) r.whole alike) in
    differ both.1

-- so far two contexts are compared, to what is before the entries that are the same
pub record ComparedTo (f : Meanings) (here there : ℕ) (G H : Context) : Type 0 where
  pub left : Context
  pub right : Context
  pub left_is : f here ≡ Some (AContext left)
  pub right_is : f there ≡ Some (AContext right)
  pub same : AreAlike G H ↔ AreAlike left right

pub compared-none : (f : Meanings) (here there : ℕ) (G H : Context) → f here ≡ Some (AContext G) → f there ≡ Some (AContext H) → ComparedTo f here there G H
compared-none f here there G H left right = record { left = G; right = H; left_is = left; right_is = right; same = (λ a. a, λ a. a) }

pub compared-more : (f g : Meanings) (here there j k : ℕ) (G H : Context) (c : ComparedTo f here there G H) → AreBefore g j k c.left c.right → ComparedTo g j k G H
compared-more f g here there j k G H c b = record {
  left = b.left_before;
  right = b.right_before;
  left_is = b.left_is;
  right_is = b.right_is;
  same = (λ a. b.same.0 (c.same.0 a), λ a. c.same.1 (b.same.1 a));
}
