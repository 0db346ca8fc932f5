-- Two types that are equal, and their normal forms.
use Rattle.std.proofs.Common.{◌≡◌, ℕ, List, [], ◌∷◌, Option, Some, None, IsSome, refl, sym, ◌∙◌, ap, ap₂, subst}
use Rattle.trees.specs.declared.claim.Claim.TheVariants as claim
use Rattle.trees.specs.declared.claim.JudgementForm.TheVariants as form
use Rattle.trees.specs.Trees.{Tree}
use Rattle.trees.specs.Judgements.{Context, Judgement}
use Rattle.trees.specs.Language.{TyEq, TmEq}
use Rattle.trees.specs.Claimed.{claimed}
use Rattle.trees.specs.Things.{ATree, AContext, both, consed}
use Rattle.side_conditions.specs.Contexts.{context_of}
use Rattle.side_conditions.specs.Shapes.{tree_of}
use Rattle.compare.proofs.ClaimLaws.{form_of}
use Rattle.recipe_runner.proofs.BuildLaws.{claim-field, some-is}
use Rattle.book.specs.Contents.{Contents}
use Rattle.book.specs.Shown.{book_concludes, book_means}
use Rattle.book.specs.declared.kernel.NodeId.{NodeId}
use Rattle.book_writer.specs.Written.{IsWritten, concluded_by}
use Rattle.evidence.specs.declared.aligned.Equated.{Equated}
use Rattle.evidence.specs.declared.aligned.TypesEquation.{TypesEquation}
use Rattle.evidence.specs.declared.lines.Evidence.{Evidence}
use Rattle.evidence.specs.declared.sides.Sort.{Sort}
use Rattle.evidence.specs.declared.sides.Sort.TheVariants as sort
use Rattle.evidence.specs.declared.texts.Shown.{Shown}
use Rattle.evidence.specs.Sides.{IsEquation, IsOfTypes}
use Rattle.evidence.specs.Texts.{AreTwoTexts}
use Rattle.evidence.specs.Told.{AreEquated, AreTwo, IsOf, IsUnaligned}
use Rattle.evidence.proofs.SideLaws.{formed, some_of}

pub is_of_types : (b : Contents) (equation ctx left right : ℕ) → claimed (book_means b) (claim.TyEq ctx left right) ≡ book_concludes b equation → IsSome (book_concludes b equation)
    → IsOfTypes b equation (record { ctx = record { 0 = ctx }; left = record { 0 = left }; right = record { 0 = right } })
is_of_types b equation ctx left right says some =
    let s = some_of (book_concludes b equation) some in
    from s.0 (formed (book_means b) (claim.TyEq ctx left right) s.0 (says ∙ s.1)) (says ∙ s.1) s.1
  where
    from : (J : Judgement) → form_of J ≡ form.TyEq → claimed (book_means b) (claim.TyEq ctx left right) ≡ Some J → book_concludes b equation ≡ Some J
        → IsOfTypes b equation (record { ctx = record { 0 = ctx }; left = record { 0 = left }; right = record { 0 = right } })
    from (TyEq G S T) h e told = record {
      context = G;
      left = S;
      right = T;
      context_is = (claim-field b (claim.TyEq ctx left right) (TyEq G S T) 0 (AContext G) e refl).is;
      left_is = (claim-field b (claim.TyEq ctx left right) (TyEq G S T) 1 (ATree S) e refl).is;
      right_is = (claim-field b (claim.TyEq ctx left right) (TyEq G S T) 2 (ATree T) e refl).is;
      concluded = told;
    }
    from J h e told = absurd (cc h)

pub told_of_types : (b : Contents) (equation : ℕ) (e g : TypesEquation) → e ≡ g → IsOfTypes b equation e → IsOfTypes b equation g
told_of_types b equation e g same is = subst (IsOfTypes b equation) same is

pub equated : (b : Contents) (nodes : Equated) (t f w : TypesEquation) (i : IsOfTypes b nodes.types.0 t) (j : IsOfTypes b nodes.found.0 f) (k : IsOfTypes b nodes.wanted.0 w)
    → book_means b f.ctx.0 ≡ book_means b t.ctx.0 → book_means b w.ctx.0 ≡ book_means b t.ctx.0 → book_means b f.left.0 ≡ book_means b t.left.0 → book_means b w.left.0 ≡ book_means b t.right.0
    → AreEquated b nodes
equated b nodes t f w i j k here there left right =
    let at : j.context ≡ i.context = ap context_of (sym j.context_is ∙ here ∙ i.context_is) in
    let also : k.context ≡ i.context = ap context_of (sym k.context_is ∙ there ∙ i.context_is) in
    let one : j.left ≡ i.left = ap tree_of (sym j.left_is ∙ left ∙ i.left_is) in
    let other : k.left ≡ i.right = ap tree_of (sym k.left_is ∙ right ∙ i.right_is) in
    record {
      context = i.context;
      left = i.left;
      right = i.right;
      one = j.right;
      other = k.right;
      types_is = i.concluded;
      found_is = j.concluded ∙ ap₂ (λ G S. Some (TyEq G S j.right)) at one;
      wanted_is = k.concluded ∙ ap₂ (λ G S. Some (TyEq G S k.right)) also other;
    }

-- what the three nodes conclude

pub concluded_three : (b : Contents) (x y z : NodeId) (J K L : Judgement) → book_concludes b x.0 ≡ Some J → book_concludes b y.0 ≡ Some K → book_concludes b z.0 ≡ Some L
    → concluded_by b (x ∷ y ∷ z ∷ []) ≡ Some (J ∷ K ∷ L ∷ [])
concluded_three b x y z J K L e h k =
    ap (λ (o : Option Judgement). both consed o (both consed (book_concludes b y.0) (both consed (book_concludes b z.0) (Some [])))) e
    ∙ ap₂ (λ (o p : Option Judgement). both consed (Some J) (both consed o (both consed p (Some [])))) h k

pub three_there : (b : Contents) (nodes : Equated) (a : AreEquated b nodes) → IsSome (concluded_by b (nodes.types ∷ nodes.found ∷ nodes.wanted ∷ []))
three_there b nodes a =
    some-is _ _ (concluded_three b nodes.types nodes.found nodes.wanted (TyEq a.context a.left a.right) (TyEq a.context a.left a.one) (TyEq a.context a.right a.other) a.types_is a.found_is a.wanted_is)

-- the two equations with normal forms are these

record Same (G H : Context) (n m : Tree) : Type 0 where
  pub context : G ≡ H
  pub tree : n ≡ m

same_equation : (s : Sort) (G H : Context) (n S m : Tree) (o : Option Judgement) → IsEquation s G n o → o ≡ Some (TyEq H S m) → Same G H n m
same_equation sort.Types G H n S m o is told =
    let same : Some (TyEq G is.0 n) ≡ Some (TyEq H S m) = sym is.1 ∙ told in
    record { context = cc; tree = cc }
same_equation sort.Terms G H n S m o is told =
    let wrong : Some (TmEq G is.0 n is.1) ≡ Some (TyEq H S m) = sym is.2 ∙ told in
    cc

abbrev roots : Context → (left right one other : Tree) → List Judgement
roots G left right one other = TyEq G left right ∷ TyEq G left one ∷ TyEq G right other ∷ []

pub unaligned_shown : (b : Contents) (nodes : Equated) (G : Context) (l r : ℕ) (s : Shown) (e : Evidence) → (t : AreTwo b G nodes.found.0 nodes.wanted.0 l r) → (a : AreEquated b nodes)
    → AreTwoTexts None G (tree_of (book_means b l)) (tree_of (book_means b r)) s
    → IsOf s (TyEq a.context a.left a.right ∷ TyEq a.context a.left a.one ∷ TyEq a.context a.right a.other ∷ []) e → IsUnaligned e
unaligned_shown b nodes G l r s e t a texts is =
    let f = same_equation t.sort G a.context t.one a.left a.one (book_concludes b nodes.found.0) t.found_is a.found_is in
    let w = same_equation t.sort G a.context t.other a.right a.other (book_concludes b nodes.wanted.0) t.wanted_is a.wanted_is in
    let ones = subst (λ (n : Tree). AreTwoTexts None G n (tree_of (book_means b r)) s) (ap tree_of t.left_is) texts in
    let both : AreTwoTexts None G t.one t.other s = subst (λ (n : Tree). AreTwoTexts None G t.one n s) (ap tree_of t.right_is) ones in
    let written : IsWritten e.bytes.items is.rows (roots a.context a.left a.right a.one a.other) = is.written in
    let here = subst (λ H. IsWritten e.bytes.items is.rows (roots H a.left a.right a.one a.other)) (sym f.context) written in
    let found = subst (λ n. IsWritten e.bytes.items is.rows (roots G a.left a.right n a.other)) (sym f.tree) here in
    record {
      context = G;
      left = a.left;
      right = a.right;
      found = t.one;
      wanted = t.other;
      rows = is.rows;
      written = subst (λ n. IsWritten e.bytes.items is.rows (roots G a.left a.right t.one n)) (sym w.tree) found;
      found_normal = t.left_normal;
      wanted_normal = t.right_normal;
      differ = t.differ;
      texts = subst (AreTwoTexts None G t.one t.other) (sym is.shown_is) both;
    }
