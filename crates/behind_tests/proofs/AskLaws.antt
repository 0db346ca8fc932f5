-- What claims say, of rows, of nodes, and where the book has grown.
use Rattle.std.proofs.Common.{◌≡◌, ℕ, List, [], ◌∷◌, ◌++◌, map, refl, sym, ◌∙◌, ap, subst, Option, Some, None, IsSome}
use Rattle.std.proofs.lemmas.List.{map-append}
use Rattle.trees.specs.Trees.{Tree, Subst}
use Rattle.trees.specs.Judgements.{Context, Judgement}
use Rattle.trees.specs.Language.{Ctx, Ty, TyEq, Tm, TmEq, Sb}
use Rattle.trees.specs.Things.{AContext, ATree, Meanings, meanings}
use Rattle.trees.proofs.Meanings.{meanings-push}
use Rattle.trees.specs.Claimed.{claimed}
use Rattle.trees.specs.Claims.{form_of as form_of_claim}
use Rattle.trees.specs.declared.claim.Claim.{Claim}
use Rattle.trees.specs.declared.claim.Claim.TheVariants as claim
use Rattle.trees.specs.declared.claim.JudgementForm.TheVariants as form
use Rattle.compare.proofs.ClaimLaws.{form_of, said_of}
use Rattle.recipe_runner.proofs.BuildLaws.{claim-field, some-is}
use Rattle.replay.proofs.FiledLaws.{claimed-kept}
use Rattle.book.specs.Contents.{Contents}
use Rattle.book.specs.Shown.{Extends, book_concludes, book_means}
use Rattle.book.specs.declared.kernel.NodeId.{NodeId}
use Rattle.book_writer.specs.Written.{concluded_by}
use Rattle.literal_types.proofs.GrowthLaws.{extends_itself}
use Rattle.typed_nodes.specs.Typed.{Says}
use Rattle.behind_tests.specs.Claims.{IsClaim, IsRow}

pub claim_later : {b c : Contents} → Extends b c → (x : Claim) (J : Judgement) → IsClaim b x J → IsClaim c x J
claim_later {b} {c} grown x J e = claimed-kept (book_means b) (book_means c) grown.rows x J e

pub ctx_claim : (b : Contents) (g : ℕ) (G : Context) → IsRow b g (AContext G) → IsClaim b (claim.Ctx g) (Ctx G)
ctx_claim b g G e = rw e refl

pub type_claim : (b : Contents) (g k : ℕ) (G : Context) (A : Tree) → IsRow b g (AContext G) → IsRow b k (ATree A) → IsClaim b (claim.Ty g k) (Ty G A)
type_claim b g k G A e f = rw (e, f) refl

pub term_claim : (b : Contents) (g j k : ℕ) (G : Context) (a A : Tree) → IsRow b g (AContext G) → IsRow b j (ATree a) → IsRow b k (ATree A) → IsClaim b (claim.Tm g j k) (Tm G a A)
term_claim b g j k G a A e f h = rw (e, f, h) refl

said_form : (f : Meanings) (x : Claim) (J : Judgement) → claimed f x ≡ Some J → form_of J ≡ form_of_claim x
said_form f x J e =
    let s = said_of f x (some-is (claimed f x) J e) in
    let both : Some s.judgement ≡ Some J = sym s.says ∙ e in
    let same : s.judgement ≡ J = cc in
    subst (λ K. form_of K ≡ form_of_claim x) same s.is.form

-- the conclusion of a node, by its claim
module _ (b : Contents) (node : NodeId) (x : Claim) (J : Judgement) (concludes : claimed (book_means b) x ≡ book_concludes b node.0) (says : Says b node J) where
  claims : (y : Claim) → x ≡ y → IsClaim b y J
  claims y is = subst (λ z. IsClaim b z J) is (concludes ∙ says)

  pub type_said : (g k : ℕ) → x ≡ claim.Ty g k → (G : Context) × (A : Tree) × Says b node (Ty G A) × IsRow b g (AContext G)
  type_said g k is = from J (said_form (book_means b) (claim.Ty g k) J (claims (claim.Ty g k) is)) (claims (claim.Ty g k) is) says
    where
      from : (K : Judgement) → form_of K ≡ form.Ty → IsClaim b (claim.Ty g k) K → Says b node K → (G : Context) × (A : Tree) × Says b node (Ty G A) × IsRow b g (AContext G)
      from (Ty G A) h e s = (G, A, s, (claim-field b (claim.Ty g k) (Ty G A) 0 (AContext G) e refl).is)
      from K h e s = absurd (cc h)

  pub equal_types_said : (g j k : ℕ) → x ≡ claim.TyEq g j k → (G : Context) × (A B : Tree) × Says b node (TyEq G A B) × IsRow b g (AContext G) × IsRow b j (ATree A) × IsRow b k (ATree B)
  equal_types_said g j k is = from J (said_form (book_means b) (claim.TyEq g j k) J (claims (claim.TyEq g j k) is)) (claims (claim.TyEq g j k) is) says
    where
      from : (K : Judgement) → form_of K ≡ form.TyEq → IsClaim b (claim.TyEq g j k) K → Says b node K → (G : Context) × (A B : Tree) × Says b node (TyEq G A B) × IsRow b g (AContext G) × IsRow b j (ATree A) × IsRow b k (ATree B)
      from (TyEq G A B) h e s =
          let at = claim-field b (claim.TyEq g j k) (TyEq G A B) in
          (G, A, B, s, (at 0 (AContext G) e refl).is, (at 1 (ATree A) e refl).is, (at 2 (ATree B) e refl).is)
      from K h e s = absurd (cc h)

  pub term_said : (g j k : ℕ) → x ≡ claim.Tm g j k → (G : Context) × (a A : Tree) × Says b node (Tm G a A) × IsRow b g (AContext G) × IsRow b j (ATree a) × IsRow b k (ATree A)
  term_said g j k is = from J (said_form (book_means b) (claim.Tm g j k) J (claims (claim.Tm g j k) is)) (claims (claim.Tm g j k) is) says
    where
      from : (K : Judgement) → form_of K ≡ form.Tm → IsClaim b (claim.Tm g j k) K → Says b node K → (G : Context) × (a A : Tree) × Says b node (Tm G a A) × IsRow b g (AContext G) × IsRow b j (ATree a) × IsRow b k (ATree A)
      from (Tm G a A) h e s =
          let at = claim-field b (claim.Tm g j k) (Tm G a A) in
          (G, a, A, s, (at 0 (AContext G) e refl).is, (at 1 (ATree a) e refl).is, (at 2 (ATree A) e refl).is)
      from K h e s = absurd (cc h)

  pub equal_terms_said : (g i j k : ℕ) → x ≡ claim.TmEq g i j k → (G : Context) × (a c A : Tree) × Says b node (TmEq G a c A) × IsRow b g (AContext G) × IsRow b i (ATree a) × IsRow b j (ATree c) × IsRow b k (ATree A)
  equal_terms_said g i j k is = from J (said_form (book_means b) (claim.TmEq g i j k) J (claims (claim.TmEq g i j k) is)) (claims (claim.TmEq g i j k) is) says
    where
      from : (K : Judgement) → form_of K ≡ form.TmEq → IsClaim b (claim.TmEq g i j k) K → Says b node K → (G : Context) × (a c A : Tree) × Says b node (TmEq G a c A) × IsRow b g (AContext G) × IsRow b i (ATree a) × IsRow b j (ATree c) × IsRow b k (ATree A)
      from (TmEq G a c A) h e s =
          let at = claim-field b (claim.TmEq g i j k) (TmEq G a c A) in
          (G, a, c, A, s, (at 0 (AContext G) e refl).is, (at 1 (ATree a) e refl).is, (at 2 (ATree c) e refl).is, (at 3 (ATree A) e refl).is)
      from K h e s = absurd (cc h)

  pub substitution_said : (h d g : ℕ) → x ≡ claim.Sb h d g → (H G : Context) × (e : Subst) × Says b node (Sb H e G) × IsRow b h (AContext H) × IsRow b g (AContext G)
  substitution_said h d g is = from J (said_form (book_means b) (claim.Sb h d g) J (claims (claim.Sb h d g) is)) (claims (claim.Sb h d g) is) says
    where
      from : (K : Judgement) → form_of K ≡ form.Sb → IsClaim b (claim.Sb h d g) K → Says b node K → (H G : Context) × (e : Subst) × Says b node (Sb H e G) × IsRow b h (AContext H) × IsRow b g (AContext G)
      from (Sb H u G) i e s =
          let at = claim-field b (claim.Sb h d g) (Sb H u G) in
          (H, G, u, s, (at 0 (AContext H) e refl).is, (at 2 (AContext G) e refl).is)
      from K i e s = absurd (cc i)

-- what concludes something goes on to do so
pub concluded_later : {b c : Contents} → Extends b c → (k : ℕ) → IsSome (book_concludes b k) → (J : Judgement) × (book_concludes c k ≡ Some J)
concluded_later {b} {c} grown k some = from (book_concludes b k) refl some
  where
    from : (o : Option Judgement) → book_concludes b k ≡ o → IsSome o → (J : Judgement) × (book_concludes c k ≡ Some J)
    from None e s = absurd (cc s)
    from (Some J) e s = (J, grown.conclusions k J e)

-- one more node that concludes something
pub concluded_more : (b : Contents) (nodes : List NodeId) (node : NodeId) → IsSome (concluded_by b nodes) → IsSome (book_concludes b node.0) → IsSome (concluded_by b (nodes ++ node ∷ []))
concluded_more b nodes node all some =
    let (J, e) = concluded_later (extends_itself b) node.0 some in
    from (concluded_by b nodes) refl all J e
  where
    from : (o : Option (List Judgement)) → concluded_by b nodes ≡ o → IsSome o → (J : Judgement) → book_concludes b node.0 ≡ Some J → IsSome (concluded_by b (nodes ++ node ∷ []))
    from None d s J e = absurd (cc s)
    from (Some Js) d s J e =
        some-is _ (Js ++ J ∷ []) (ap (meanings (book_concludes b)) (map-append (λ (n : NodeId). n.0) nodes (node ∷ [])) ∙ meanings-push (book_concludes b) (map (λ (n : NodeId). n.0) nodes) Js node.0 J d e)
