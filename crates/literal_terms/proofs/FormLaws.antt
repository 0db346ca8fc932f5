-- What a node types, by the way of its rule.
use Rattle.std.proofs.Common.{◌≡◌, ◌≤◌, ℕ, List, ◌∷◌, [], length, refl, sym, ◌∙◌, subst, arith, Option, Some}
use Rattle.std.specs.Prelude.{slice_get}
use Rattle.std.specs.List.{All}
use Rattle.std.proofs.lemmas.List.Elements.{All-head}
use Rattle.trees.specs.Things.{ATree, Thing, meanings}
use Rattle.trees.specs.Trees.{Tree, Subst, apply}
use Rattle.trees.specs.Judgements.{Context, WithVar, WithName, WithFace, Judgement, TreeRule, trees}
use Rattle.trees.specs.Language.{Ctx, Ty, TyEq, Tm, TmEq, Sb, IsFace}
use Rattle.conditions.specs.Sides.{SideHolds}
use Rattle.theory.specs.declared.rule.RuleName.{RuleName}
use Rattle.rules.specs.Table.{at, i0, i1, app, equiv, fst, glue_wants, pair_wants}
use Rattle.rules.specs.Rules.{AtAll}
use Rattle.book.specs.Contents.{Contents}
use Rattle.book.specs.Right.{IsUse}
use Rattle.book.specs.Shown.{book_means, book_concludes}
use Rattle.book.specs.declared.kernel.NodeId.{NodeId}
use Rattle.typed_nodes.specs.Typed.{Says}
use Rattle.literal_types.proofs.StepLaws.{said_at, step_of, counted}
use Rattle.literal_terms.specs.declared.forms.Glued.{Glued}
use Rattle.literal_terms.specs.declared.forms.TermForm.TheVariants as form
use Rattle.literal_terms.specs.declared.ways.Way.{Way}
use Rattle.literal_terms.specs.declared.ways.Way.TheVariants as way
use Rattle.literal_terms.specs.Forms.{IsFormed}
use Rattle.literal_terms.specs.Ways.{OfTerm, Follows, IsWay, path_wants}
use Rattle.literal_terms.specs.Origins.{ArePremises}

of_term : (J : Judgement) (P : Context → Tree → Tree → Type 0) (K : Context) (t S : Tree) → OfTerm J P → Tm K t S ≡ J → P K t S
of_term (Tm G a A) P K t S h is =
    let k : G ≡ K = cc in
    let s : a ≡ t = cc in
    let y : A ≡ S = cc in
    subst (λ x. P x t S) k (subst (λ x. P G x S) s (subst (λ x. P G a x) y h))
of_term (Ctx G) P K t S h is = absurd (cc is)
of_term (Ty G A) P K t S h is = absurd (cc is)
of_term (TyEq G A B) P K t S h is = absurd (cc is)
of_term (TmEq G a b A) P K t S h is = absurd (cc is)
of_term (Sb G d H) P K t S h is = absurd (cc is)

-- what the premises conclude, of which the term is made
pub record Followed (w : Way) (b : Contents) (premises : List ℕ) (K : Context) (t S : Tree) : Type 0 where
  pub rule : TreeRule
  pub said : meanings (book_concludes b) premises ≡ Some rule.wants
  pub sides : All SideHolds rule.sides
  pub follows : Follows w rule K t S

pub followed : (w v : Way) (b : Contents) (name : RuleName) (parts premises : List ℕ) (node : NodeId) (K : Context) (t S : Tree) → w ≡ v → AtAll name (λ xs r. IsWay w r) → ((J : Judgement) → book_concludes b node.0 ≡ Some J → IsUse (book_means b) (book_concludes b) name parts premises J) → Says b node (Tm K t S) → Followed v b premises K t S
followed w v b name parts premises node K t S is all used says =
    let s = step_of (λ xs r. IsWay w r) b name parts premises (Tm K t S) all (used (Tm K t S) says) in
    subst (λ x. Followed x b premises K t S) is (record {
      rule = s.rule;
      said = s.wants;
      sides = s.sides;
      follows = of_term s.rule.gives (Follows w s.rule) K t S s.holds s.gives;
    })

-- the judgement at a place of what a rule wants
there : (b : Contents) (premises : List ℕ) (wants js : List Judgement) (i k : ℕ) (J : Judgement) → meanings (book_concludes b) premises ≡ Some wants → wants ≡ js → slice_get premises i ≡ Some k → slice_get js i ≡ Some J → book_concludes b k ≡ Some J
there b premises wants js i k J said is at e = said_at (book_concludes b) premises wants i k J said at (subst (λ xs. slice_get xs i ≡ Some J) (sym is) e)

module _ {b : Contents} {premises : List ℕ} {K : Context} {t S : Tree} where
  -- how many premises there are

  pub two_converted : Followed way.Converted b premises K t S → 2 ≤ length premises
  two_converted f = let (R, e) = f.follows in counted (book_concludes b) premises f.rule.wants (Tm K t R ∷ TyEq K R S ∷ []) 1 f.said e (omega arith)

  pub two_instance : Followed way.Instance b premises K t S → 2 ≤ length premises
  two_instance f = let (d, G, a, A, e, is, of) = f.follows in counted (book_concludes b) premises f.rule.wants (Sb K d G ∷ Tm G a A ∷ []) 1 f.said e (omega arith)

  pub two_function : Followed way.Function b premises K t S → 2 ≤ length premises
  two_function f = let (A, s, B, e, is, of) = f.follows in counted (book_concludes b) premises f.rule.wants (Ty K A ∷ Tm (WithVar K A) s B ∷ []) 1 f.said e (omega arith)

  pub three_pair : Followed way.Pair b premises K t S → 3 ≤ length premises
  three_pair f = let (A, B, u, v, e, is, of) = f.follows in counted (book_concludes b) premises f.rule.wants (pair_wants trees K u v A B) 2 f.said e (omega arith)

  pub three_path : Followed way.Path b premises K t S → 3 ≤ length premises
  three_path f = let (A, s, u, v, e, is, of) = f.follows in counted (book_concludes b) premises f.rule.wants (path_wants K A s u v) 2 f.said e (omega arith)

  pub six_glued : Followed way.Glued b premises K t S → 6 ≤ length premises
  six_glued f = let (A, p, T, w, c, a, e, face, is, of) = f.follows in counted (book_concludes b) premises f.rule.wants (glue_wants trees K A p T w c a) 5 f.said e (omega arith)

  -- what the term is

  pub opens_converted : (j k : ℕ) → Followed way.Converted b premises K t S → slice_get premises 0 ≡ Some j → slice_get premises 1 ≡ Some k → (R : Tree) × Says b (record { 0 = j }) (Tm K t R) × Says b (record { 0 = k }) (TyEq K R S)
  opens_converted j k f first second =
      let (R, e) = f.follows in
      let js = Tm K t R ∷ TyEq K R S ∷ [] in
      (R, there b premises f.rule.wants js 0 j (Tm K t R) f.said e first refl, there b premises f.rule.wants js 1 k (TyEq K R S) f.said e second refl)

  pub opens_instance : (j k : ℕ) → Followed way.Instance b premises K t S → slice_get premises 0 ≡ Some j → slice_get premises 1 ≡ Some k → (d : Subst) × (G : Context) × (a A : Tree) × Says b (record { 0 = j }) (Sb K d G) × Says b (record { 0 = k }) (Tm G a A) × (t ≡ apply a d) × (S ≡ apply A d)
  opens_instance j k f first second =
      let (d, G, a, A, e, is, of) = f.follows in
      let js = Sb K d G ∷ Tm G a A ∷ [] in
      (d, G, a, A, there b premises f.rule.wants js 0 j (Sb K d G) f.said e first refl, there b premises f.rule.wants js 1 k (Tm G a A) f.said e second refl, is, of)

  pub opens_function : (j k : ℕ) → Followed way.Function b premises K t S → slice_get premises 0 ≡ Some j → slice_get premises 1 ≡ Some k → IsFormed b (form.Function (record { 0 = j }) (record { 0 = k })) K t S
  opens_function j k f first second =
      let (A, s, B, e, is, of) = f.follows in
      let js = Ty K A ∷ Tm (WithVar K A) s B ∷ [] in
      (A, s, B, is, of, there b premises f.rule.wants js 0 j (Ty K A) f.said e first refl, there b premises f.rule.wants js 1 k (Tm (WithVar K A) s B) f.said e second refl)

  pub opens_pair : (i j k : ℕ) → Followed way.Pair b premises K t S → slice_get premises 0 ≡ Some i → slice_get premises 1 ≡ Some j → slice_get premises 2 ≡ Some k → IsFormed b (form.Pair (record { 0 = i }) (record { 0 = j }) (record { 0 = k })) K t S
  opens_pair i j k f first second third =
      let (A, B, u, v, e, is, of) = f.follows in
      let js = pair_wants trees K u v A B in
      (A, B, u, v, is, of, there b premises f.rule.wants js 0 i (Ty (WithVar K A) B) f.said e first refl, there b premises f.rule.wants js 1 j (Tm K u A) f.said e second refl, there b premises f.rule.wants js 2 k (Tm K v (at trees B u)) f.said e third refl)

  pub opens_path : (i j k : ℕ) → Followed way.Path b premises K t S → slice_get premises 0 ≡ Some i → slice_get premises 1 ≡ Some j → slice_get premises 2 ≡ Some k → IsFormed b (form.Path (record { 0 = i }) (record { 0 = j }) (record { 0 = k })) K t S
  opens_path i j k f first second third =
      let (A, s, u, v, e, is, of) = f.follows in
      let js = path_wants K A s u v in (
        A,
        s,
        u,
        v,
        is,
        of,
        there b premises f.rule.wants js 0 i (Tm (WithName K) s A) f.said e first refl,
        there b premises f.rule.wants js 1 j (TmEq K (at trees s (i0 trees)) u (at trees A (i0 trees))) f.said e second refl,
        there b premises f.rule.wants js 2 k (TmEq K (at trees s (i1 trees)) v (at trees A (i1 trees))) f.said e third refl,
      )

  pub opens_glued : (g : Glued) → Followed way.Glued b premises K t S → ArePremises premises g → IsFormed b (form.Glued g) K t S
  opens_glued g f are =
      let (A, p, T, w, c, a, e, face, is, of) = f.follows in
      let (base, side, equivalence, inner, outer, agrees) = are in
      let js = glue_wants trees K A p T w c a in (
        A,
        p,
        T,
        w,
        c,
        a,
        is,
        of,
        All-head SideHolds (IsFace K p) [] (subst (All SideHolds) face f.sides),
        there b premises f.rule.wants js 0 g.base.0 (Ty K A) f.said e base refl,
        there b premises f.rule.wants js 1 g.side.0 (Ty (WithFace K p) T) f.said e side refl,
        there b premises f.rule.wants js 2 g.equivalence.0 (Tm (WithFace K p) w (equiv trees T A)) f.said e equivalence refl,
        there b premises f.rule.wants js 3 g.inner.0 (Tm (WithFace K p) c T) f.said e inner refl,
        there b premises f.rule.wants js 4 g.outer.0 (Tm K a A) f.said e outer refl,
        there b premises f.rule.wants js 5 g.agrees.0 (TmEq (WithFace K p) (app trees (fst trees w) c) a A) f.said e agrees refl,
      )

-- what a row means is one tree
pub one_tree : (f : ℕ → Option Thing) (j k : ℕ) (A B : Tree) → f j ≡ Some (ATree A) → f k ≡ Some (ATree B) → j ≡ k → A ≡ B
one_tree f j k A B first second same =
    let both : Some (ATree A) ≡ Some (ATree B) = sym first ∙ subst (λ n. f n ≡ Some (ATree B)) (sym same) second in
    cc
