-- What texts and files show of equations.
use Rattle.std.proofs.Common.{◌≡◌, ◌↔◌, ℕ, Bool, false, List, [], ◌∷◌, ◌++◌, codes, Option, Some, None, IsTrue, refl, sym, ◌∙◌, ap, ap₂, subst, string_bytes}
use Rattle.std.specs.Prelude.{IfSome, IsSome, option_map}
use Rattle.recipe_runner.proofs.BuildLaws.{some-is}
use Rattle.std.proofs.lemmas.Bool.{true≢false}
use Rattle.trees.specs.declared.op.Op.{Op}
use Rattle.trees.specs.declared.op.Op.TheVariants as op
use Rattle.trees.specs.Trees.{Tree, Trees, Var, Make, NoTrees, More}
use Rattle.trees.specs.Judgements.{Context, Judgement}
use Rattle.trees.specs.Language.{TyEq, TmEq}
use Rattle.trees.specs.Things.{ATree, both, consed}
use Rattle.rows.specs.Views.{IsContext}
use Rattle.rows.specs.declared.views.CtxId.{CtxId}
use Rattle.rows.specs.declared.views.TermId.{TermId}
use Rattle.side_conditions.specs.Contexts.{context_of}
use Rattle.side_conditions.specs.Shapes.{tree_of}
use Rattle.fixed_names.specs.Fixed.{Fixed}
use Rattle.normal_parts.specs.Normal.{Begins, Normal}
use Rattle.normality.specs.Worlds.{fix_each}
use Rattle.book.specs.declared.kernel.NodeId.{NodeId}
use Rattle.book.specs.Contents.{Contents}
use Rattle.book.specs.Shown.{Extends, book_concludes, book_means}
use Rattle.book_writer.specs.Written.{IsWritten, concluded_by}
use Rattle.evidence.specs.declared.lines.Evidence.{Evidence}
use Rattle.evidence.specs.declared.texts.Shown.{Shown}
use Rattle.evidence.specs.declared.texts.Shown.TheVariants as shown
use Rattle.evidence.specs.declared.sides.Place.{Place}
use Rattle.evidence.specs.declared.sides.Side.{Side}
use Rattle.evidence.specs.declared.sides.Sort.{Sort}
use Rattle.evidence.specs.declared.sides.Sort.TheVariants as sort
use Rattle.evidence.specs.Contexts.{IsNormalIn}
use Rattle.evidence.specs.Evidence.{Equal, types, terms, ShowsFaceOf, shown_in}
use Rattle.evidence.specs.Faces.{line}
use Rattle.evidence.specs.Lines.{lines_of}
use Rattle.evidence.specs.Sides.{IsEquation, IsPlace, IsSide}
use Rattle.evidence.specs.Texts.{AreTwoTexts, IsTypeText}
use Rattle.evidence.specs.Told.{AreShown, AreTwo, IsNormalType, IsOf, IsTypeShown, IsUniverse, TwoShown}
use Rattle.evidence.proofs.GrowthLaws.{same_context}

-- what one node concludes, or two
pub concluded_one : (b : Contents) (node : NodeId) (J : Judgement) → book_concludes b node.0 ≡ Some J → concluded_by b (node ∷ []) ≡ Some (J ∷ [])
concluded_one b node J e = ap (λ (x : Option Judgement). both consed x (Some [])) e

pub concluded_two : (b : Contents) (one other : NodeId) (J K : Judgement) → book_concludes b one.0 ≡ Some J → book_concludes b other.0 ≡ Some K → concluded_by b (one ∷ other ∷ []) ≡ Some (J ∷ K ∷ [])
concluded_two b one other J K e h = ap₂ (λ (x y : Option Judgement). both consed x (both consed y (Some []))) e h

-- a place of a context is one of it in a later book
pub place_later : (a b : Contents) → Extends a b → (ctx : CtxId) (p : Place) → IsContext (book_means a ctx.0) → p.ctx ≡ ctx → IsPlace (context_of (book_means a ctx.0)) p → IsPlace (context_of (book_means b p.ctx.0)) p
place_later a b grown ctx p is at place =
    let same : book_means b p.ctx.0 ≡ book_means a ctx.0 = ap (λ (c : CtxId). book_means b c.0) at ∙ same_context grown ctx.0 is in
    subst (λ x. IsPlace (context_of x) p) (sym same) place

-- the normal right side of an equation of types

types_of : (s : Sort) (G : Context) (n : Tree) (J : Option Judgement) → s ≡ sort.Types → IsEquation s G n J → (S : Tree) × (J ≡ Some (TyEq G S n))
types_of sort.Types G n J e is = is
types_of sort.Terms G n J e is = absurd (cc e)

pub normal_type_is : (b : Contents) (equation : ℕ) (s : Side) (ctx : CtxId) → IsSide b equation s → s.sort ≡ sort.Types → s.ctx ≡ ctx → IsNormalIn (context_of (book_means b ctx.0)) (tree_of (book_means b s.right.0)) → IsNormalType b (context_of (book_means b ctx.0)) equation s.right.0
normal_type_is b equation s ctx is of_types at normal =
    let G = context_of (book_means b ctx.0) in
    let same : is.context ≡ G = sym (ap context_of is.context_is) ∙ ap (λ (c : CtxId). context_of (book_means b c.0)) at in
    let told = types_of s.sort is.context is.tree (book_concludes b equation) of_types is.equation_is in
    record {
      normal = is.tree;
      right_is = is.tree_is;
      is_normal = subst (IsNormalIn G) (ap tree_of is.tree_is) normal;
      type = told.0;
      equation_is = told.1 ∙ ap (λ H. Some (TyEq H told.0 is.tree)) same;
    }

-- it is shown

type_line : (G : Context) (n : Tree) (s : Shown) → IsTypeText G n s → lines_of s ≡ line (codes "type: ") (shown_in G n)
type_line G n (shown.Type text) is = ap (line (codes "type: ")) is
type_line G n shown.Nothing is = absurd is
type_line G n (shown.Two found wanted) is = absurd is
type_line G n (shown.OnFace face found wanted) is = absurd is

pub type_shown : (b : Contents) (G : Context) (equation right : ℕ) (unwanted : Option Op) (s : Shown) (e : Evidence) → (t : IsNormalType b G equation right) → IfSome unwanted (λ o. Begins o (tree_of (book_means b right)) → ⊥) → IsTypeText G (tree_of (book_means b right)) s → IsOf s (TyEq G t.type t.normal ∷ []) e → IsTypeShown unwanted e
type_shown b G equation right unwanted s e t other text is =
    let same : tree_of (book_means b right) ≡ t.normal = ap tree_of t.right_is in
    let shows : IsTypeText G t.normal e.shown = subst (IsTypeText G t.normal) (sym is.shown_is) (subst (λ n. IsTypeText G n s) same text) in
    record {
      context = G;
      normal = t.normal;
      other = subst (λ n. IfSome unwanted (λ o. Begins o n → ⊥)) same other;
      roots = TyEq G t.type t.normal ∷ [];
      rows = is.rows;
      written = is.written;
      shows = record {
        is_normal = t.is_normal;
        type = t.type;
        derived = refl;
        shown = type_line G t.normal e.shown shows;
      };
      text = shows;
    }

-- a normal tree that begins with it is the universe

universe_alone : (z : Fixed) (kids : Trees) → Normal z (Make op.U kids) → Make op.U kids ≡ Make op.U NoTrees
universe_alone z NoTrees normal = refl
universe_alone z (More t ts) normal = absurd normal

universe_is : (z : Fixed) (n : Tree) → Begins op.U n → Normal z n → n ≡ Make op.U NoTrees
universe_is z (Var k) begins normal = absurd begins
universe_is z (Make o kids) begins normal = ap (λ p. Make p kids) begins ∙ universe_alone z kids (subst (λ p. Normal z (Make p kids)) begins normal)

pub universe_shown : (b : Contents) (G : Context) (equation right : ℕ) (e : Evidence) → (t : IsNormalType b G equation right) → Begins op.U (tree_of (book_means b right)) → IsOf shown.Nothing (TyEq G t.type t.normal ∷ []) e → IsUniverse e
universe_shown b G equation right e t begins is =
    let same : tree_of (book_means b right) ≡ t.normal = ap tree_of t.right_is in
    let universe : t.normal ≡ Make op.U NoTrees = universe_is (fix_each t.is_normal.names) t.normal (subst (Begins op.U) same begins) t.is_normal.normal in
    record {
      context = G;
      type = t.type;
      rows = is.rows;
      written = subst (λ n. IsWritten e.bytes.items is.rows (TyEq G t.type n ∷ [])) universe is.written;
      shown_is = is.shown_is;
    }

-- two normal right sides that differ

pub are_two : (b : Contents) (found wanted : ℕ) (l r : Side) (ctx : CtxId) (same : Bool) → IsSide b found l → IsSide b wanted r → l.sort ≡ r.sort → l.ctx ≡ ctx → book_means b r.ctx.0 ≡ book_means b ctx.0
    → IsNormalIn (context_of (book_means b ctx.0)) (tree_of (book_means b l.right.0)) → IsNormalIn (context_of (book_means b ctx.0)) (tree_of (book_means b r.right.0))
    → (IsTrue same ↔ (book_means b l.right.0 ≡ book_means b r.right.0)) → same ≡ false → AreTwo b (context_of (book_means b ctx.0)) found wanted l.right.0 r.right.0
are_two b found wanted l r ctx same left right sorts at also normal normal-2 equal differ =
    let G = context_of (book_means b ctx.0) in
    let here : left.context ≡ G = sym (ap context_of left.context_is) ∙ ap (λ (c : CtxId). context_of (book_means b c.0)) at in
    let there : right.context ≡ G = sym (ap context_of right.context_is) ∙ ap context_of also in
    record {
      sort = l.sort;
      one = left.tree;
      other = right.tree;
      left_is = left.tree_is;
      right_is = right.tree_is;
      left_normal = subst (IsNormalIn G) (ap tree_of left.tree_is) normal;
      right_normal = subst (IsNormalIn G) (ap tree_of right.tree_is) normal-2;
      differ = λ e. true≢false (sym (equal.1 (left.tree_is ∙ ap (λ t. Some (ATree t)) e ∙ sym right.tree_is)) ∙ differ);
      found_is = subst (λ H. IsEquation l.sort H left.tree (book_concludes b found)) here left.equation_is;
      wanted_is = subst (λ H. IsEquation l.sort H right.tree (book_concludes b wanted)) there (subst (λ s. IsEquation s right.context right.tree (book_concludes b wanted)) (sym sorts) right.equation_is);
    }

-- what two equations of one sort conclude
pub record TwoRoots (G : Context) (one other : Tree) (x y : Option Judgement) : Type 0 where
  pub first : Judgement
  pub second : Judgement
  pub first_is : x ≡ Some first
  pub second_is : y ≡ Some second
  pub equal : Equal G one other (first ∷ second ∷ [])

pub two_roots : (s : Sort) (G : Context) (one other : Tree) (x y : Option Judgement) → IsEquation s G one x → IsEquation s G other y → TwoRoots G one other x y
two_roots sort.Types G one other x y e h = record {
  first = TyEq G e.0 one;
  second = TyEq G h.0 other;
  first_is = e.1;
  second_is = h.1;
  equal = types e.0 h.0;
}
two_roots sort.Terms G one other x y e h = record {
  first = TmEq G e.0 one e.1;
  second = TmEq G h.0 other h.1;
  first_is = e.2;
  second_is = h.2;
  equal = terms e.0 h.0 e.1 h.1;
}

pub roots_of : (b : Contents) (G : Context) (found wanted left right : ℕ) (t : AreTwo b G found wanted left right) → TwoRoots G t.one t.other (book_concludes b found) (book_concludes b wanted)
roots_of b G found wanted left right t = two_roots t.sort G t.one t.other (book_concludes b found) (book_concludes b wanted) t.found_is t.wanted_is

-- they are shown

-- the lines of two trees, with that of a face where there is one
record TwoLines (face : Option Tree) (G : Context) (found wanted : Tree) (lines : List ℕ) : Type 0 where
  pub face_text : List ℕ
  pub face_shown : ShowsFaceOf G face face_text
  pub shown : lines ≡ face_text ++ (line (codes "found: ") (shown_in G found) ++ line (codes "wanted: ") (shown_in G wanted))

two_lines : (face : Option Tree) (G : Context) (f w : Tree) (s : Shown) → AreTwoTexts face G f w s → TwoLines face G f w (lines_of s)
two_lines None G f w (shown.Two found wanted) is = record {
  face_text = [];
  face_shown = refl;
  shown = ap₂ (λ (x y : List ℕ). line (codes "found: ") x ++ line (codes "wanted: ") y) is.0 is.1;
}
two_lines (Some p) G f w (shown.OnFace face found wanted) is = record {
  face_text = line (codes "face: ") (string_bytes face);
  face_shown = (string_bytes face, is.2, refl);
  shown = ap₂ (λ (x y : List ℕ). line (codes "face: ") (string_bytes face) ++ (line (codes "found: ") x ++ line (codes "wanted: ") y)) is.0 is.1;
}
two_lines None G f w shown.Nothing is = absurd is
two_lines None G f w (shown.Type text) is = absurd is
two_lines None G f w (shown.OnFace face found wanted) is = absurd is
two_lines (Some p) G f w shown.Nothing is = absurd is
two_lines (Some p) G f w (shown.Type text) is = absurd is
two_lines (Some p) G f w (shown.Two found wanted) is = absurd is

pub two_shown : (b : Contents) (G : Context) (found wanted left right : ℕ) (face : Option Tree) (s : Shown) (e : Evidence) → (t : AreTwo b G found wanted left right) → (roots : TwoRoots G t.one t.other (book_concludes b found) (book_concludes b wanted))
    → AreTwoTexts face G (tree_of (book_means b left)) (tree_of (book_means b right)) s → IsOf s (roots.first ∷ roots.second ∷ []) e → TwoShown face e
two_shown b G found wanted left right face s e t roots texts is =
    let ones = subst (λ (n : Tree). AreTwoTexts face G n (tree_of (book_means b right)) s) (ap tree_of t.left_is) texts in
    let both : AreTwoTexts face G t.one t.other s = subst (λ (n : Tree). AreTwoTexts face G t.one n s) (ap tree_of t.right_is) ones in
    let shows : AreTwoTexts face G t.one t.other e.shown = subst (AreTwoTexts face G t.one t.other) (sym is.shown_is) both in
    let lines = two_lines face G t.one t.other e.shown shows in
    record {
      roots = roots.first ∷ roots.second ∷ [];
      rows = is.rows;
      written = is.written;
      shows = record {
        context = G;
        found = t.one;
        wanted = t.other;
        found_normal = t.left_normal;
        wanted_normal = t.right_normal;
        differ = t.differ;
        derived = roots.equal;
        face_text = lines.face_text;
        face_shown = lines.face_shown;
        shown = lines.shown;
      };
      texts = shows;
    }

-- the tree of the face, if a row of one is named
pub are_shown : (f : TermId → Tree) (face : Option TermId) (e : Evidence) → TwoShown (option_map f face) e → AreShown face e
are_shown f None e is = is
are_shown f (Some row) e is = (f row, is)

-- there is what the nodes conclude

pub one_there : (b : Contents) (node : NodeId) (J : Judgement) → book_concludes b node.0 ≡ Some J → IsSome (concluded_by b (node ∷ []))
one_there b node J e = some-is (concluded_by b (node ∷ [])) (J ∷ []) (concluded_one b node J e)

pub two_there : (b : Contents) (one other : NodeId) (J K : Judgement) → book_concludes b one.0 ≡ Some J → book_concludes b other.0 ≡ Some K → IsSome (concluded_by b (one ∷ other ∷ []))
two_there b one other J K e h = some-is (concluded_by b (one ∷ other ∷ [])) (J ∷ K ∷ []) (concluded_two b one other J K e h)

abbrev first_or : {A : Type 0} → A → Option (A × A) → A
first_or d None = d
first_or d (Some p) = p.0

abbrev second_or : {A : Type 0} → A → Option (A × A) → A
second_or d None = d
second_or d (Some p) = p.1

pub same_pair : {A : Type 0} (a b x y : A) → ◌≡◌ {A = Option (A × A)} (Some (a, b)) (Some (x, y)) → (a ≡ x) × (b ≡ y)
same_pair a b x y e = (ap (first_or a) e, ap (second_or b) e)
