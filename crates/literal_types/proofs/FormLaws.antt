-- What a node types, by the way of its rule.
use Rattle.std.proofs.Common.{◌≡◌, ◌<◌, ◌≤◌, ℕ, List, ◌∷◌, length, ap, subst, arith, Some}
use Rattle.std.specs.Prelude.{slice_get}
use Rattle.trees.specs.Things.{meanings}
use Rattle.trees.specs.Trees.{Tree, Subst, apply}
use Rattle.trees.specs.Judgements.{Context, WithVar, WithName, Judgement, trees}
use Rattle.trees.specs.Language.{Ctx, Ty, TyEq, Tm, TmEq, Sb}
use Rattle.theory.specs.declared.rule.RuleName.{RuleName}
use Rattle.rules.specs.Table.{at, i0, i1}
use Rattle.rules.specs.Rules.{AtAll}
use Rattle.book.specs.Contents.{Contents}
use Rattle.book.specs.Right.{IsUse}
use Rattle.book.specs.Shown.{book_means, book_concludes}
use Rattle.book.specs.declared.kernel.NodeId.{NodeId}
use Rattle.typed_nodes.specs.Typed.{Says}
use Rattle.literal_types.specs.declared.forms.Size.{Size}
use Rattle.literal_types.specs.declared.forms.Former.{Former}
use Rattle.literal_types.specs.declared.forms.Form.TheVariants as form
use Rattle.literal_types.specs.declared.ways.Way.{Way}
use Rattle.literal_types.specs.declared.ways.Way.TheVariants as way
use Rattle.literal_types.specs.Formed.{sized, IsFormed}
use Rattle.literal_types.specs.Ways.{IsOf, OfTyping, Follows, IsWay}
use Rattle.literal_types.specs.Openings.{Types}
use Rattle.literal_types.proofs.StepLaws.{said_at, step_of, counted}

of_typing : (J : Judgement) (P : Context → Tree → Type 0) (K : Context) (A : Tree) → OfTyping J P → IsOf J K A → P K A
of_typing (Ty G B) P K A h is = subst (λ L. P L A) is.0 (subst (P G) is.1 h)
of_typing (Tm G B S) P K A h is = subst (λ L. P L A) is.0 (subst (P G) is.1 h)
of_typing (Ctx G) P K A h is = absurd is
of_typing (TyEq G B C) P K A h is = absurd is
of_typing (TmEq G B C S) P K A h is = absurd is
of_typing (Sb G d H) P K A h is = absurd is

-- what the premises conclude, of which the tree is made
pub record Followed (w : Way) (b : Contents) (premises : List ℕ) (K : Context) (A : Tree) : Type 0 where
  pub wants : List Judgement
  pub said : meanings (book_concludes b) premises ≡ Some wants
  pub follows : Follows w wants K A

pub followed : (w v : Way) (b : Contents) (name : RuleName) (parts premises : List ℕ) (node : NodeId) (K : Context) (A : Tree) → w ≡ v → AtAll name (λ xs r. IsWay w r) → ((J : Judgement) → book_concludes b node.0 ≡ Some J → IsUse (book_means b) (book_concludes b) name parts premises J) → Types b node K A → Followed v b premises K A
followed w v b name parts premises node K A is all used t =
    let s = step_of (λ xs r. IsWay w r) b name parts premises t.judgement all (used t.judgement t.says) in
    let of : IsOf s.rule.gives K A = subst (λ J. IsOf J K A) s.gives t.is_of in
    subst (λ x. Followed x b premises K A) is (record {
      wants = s.rule.wants;
      said = s.wants;
      follows = of_typing s.rule.gives (Follows w s.rule.wants) K A s.holds of;
    })

module _ {b : Contents} {premises : List ℕ} {K : Context} {A : Tree} where
  -- how many premises there are

  pub one_same : Followed way.Same b premises K A → 0 < length premises
  one_same f = let (J, Js, e, is) = f.follows in counted (book_concludes b) premises f.wants (J ∷ Js) 0 f.said e (omega arith)

  pub two_instance : Followed way.Instance b premises K A → 2 ≤ length premises
  two_instance f = let (d, G, B, J, Js, e, is, same) = f.follows in counted (book_concludes b) premises f.wants (Sb K d G ∷ J ∷ Js) 1 f.said e (omega arith)

  pub two_family : {x : Former} {s : Size} → Followed (way.Family x s) b premises K A → 2 ≤ length premises
  two_family {s = s} f = let (B, C, Js, e, same) = f.follows in counted (book_concludes b) premises f.wants (sized s K B ∷ sized s (WithVar K B) C ∷ Js) 1 f.said e (omega arith)

  pub three_line : {s : Size} → Followed (way.Line s) b premises K A → 3 ≤ length premises
  three_line {s = s} f =
      let (B, u, v, Js, e, same) = f.follows in
      counted (book_concludes b) premises f.wants (sized s (WithName K) B ∷ Tm K u (at trees B (i0 trees)) ∷ Tm K v (at trees B (i1 trees)) ∷ Js) 2 f.said e (omega arith)

  -- what it is

  pub opens_same : (k : ℕ) → Followed way.Same b premises K A → slice_get premises 0 ≡ Some k → Types b (record { 0 = k }) K A
  opens_same k f at = let (J, Js, e, is) = f.follows in record {
    judgement = J;
    says = said_at (book_concludes b) premises f.wants 0 k J f.said at (ap (λ xs. slice_get xs 0) e);
    is_of = is;
  }

  pub opens_instance : (j k : ℕ) → Followed way.Instance b premises K A → slice_get premises 0 ≡ Some j → slice_get premises 1 ≡ Some k → (d : Subst) × (G : Context) × (B : Tree) × Says b (record { 0 = j }) (Sb K d G) × Types b (record { 0 = k }) G B × (A ≡ apply B d)
  opens_instance j k f first second =
      let (d, G, B, J, Js, e, is, same) = f.follows in (
        d,
        G,
        B,
        said_at (book_concludes b) premises f.wants 0 j (Sb K d G) f.said first (ap (λ xs. slice_get xs 0) e),
        record {
          judgement = J;
          says = said_at (book_concludes b) premises f.wants 1 k J f.said second (ap (λ xs. slice_get xs 1) e);
          is_of = is;
        },
        same,
      )

  pub opens_family : (x : Former) (s : Size) (j k : ℕ) → Followed (way.Family x s) b premises K A → slice_get premises 0 ≡ Some j → slice_get premises 1 ≡ Some k → IsFormed b (form.Family x s (record { 0 = j }) (record { 0 = k })) K A
  opens_family x s j k f first second =
      let (B, C, Js, e, same) = f.follows in (
        B,
        C,
        same,
        said_at (book_concludes b) premises f.wants 0 j (sized s K B) f.said first (ap (λ xs. slice_get xs 0) e),
        said_at (book_concludes b) premises f.wants 1 k (sized s (WithVar K B) C) f.said second (ap (λ xs. slice_get xs 1) e),
      )

  pub opens_line : (s : Size) (i j k : ℕ) → Followed (way.Line s) b premises K A → slice_get premises 0 ≡ Some i → slice_get premises 1 ≡ Some j → slice_get premises 2 ≡ Some k → IsFormed b (form.Line s (record { 0 = i }) (record { 0 = j }) (record { 0 = k })) K A
  opens_line s i j k f first second third =
      let (B, u, v, Js, e, same) = f.follows in (
        B,
        u,
        v,
        same,
        said_at (book_concludes b) premises f.wants 0 i (sized s (WithName K) B) f.said first (ap (λ xs. slice_get xs 0) e),
        said_at (book_concludes b) premises f.wants 1 j (Tm K u (at trees B (i0 trees))) f.said second (ap (λ xs. slice_get xs 1) e),
        said_at (book_concludes b) premises f.wants 2 k (Tm K v (at trees B (i1 trees))) f.said third (ap (λ xs. slice_get xs 2) e),
      )
