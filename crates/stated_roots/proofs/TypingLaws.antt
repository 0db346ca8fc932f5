-- Claims of typings.
use Rattle.std.proofs.Common.{◌≡◌, ℕ, refl, sym, ◌∙◌, ap, Some, IsSome}
use Rattle.trees.specs.Judgements.{Judgement, Context, Nil}
use Rattle.trees.specs.Language.{Tm}
use Rattle.trees.specs.Trees.{Tree}
use Rattle.trees.specs.Claimed.{claimed}
use Rattle.trees.specs.Things.{Meanings, ATree, AContext}
use Rattle.trees.specs.declared.claim.Claim.{Claim}
use Rattle.trees.specs.declared.claim.Claim.TheVariants as claim
use Rattle.trees.specs.declared.claim.JudgementForm.TheVariants as form
use Rattle.compare.proofs.ClaimLaws.{form_of}
use Rattle.recipe_runner.proofs.BuildLaws.{claim-field}
use Rattle.book.specs.Contents.{Contents}
use Rattle.book.specs.Shown.{book_concludes, book_means}
use Rattle.stated_roots.specs.Terms.{TypesClosed}
use Rattle.stated_roots.proofs.EquationLaws.{form_said, some_of}

-- what the rows of a typing mean
pub record Types (f : Meanings) (ctx term : ℕ) (J : Judgement) : Type 0 where
  pub G : Context
  pub t : Tree
  pub A : Tree
  pub ctx_is : f ctx ≡ Some (AContext G)
  pub term_is : f term ≡ Some (ATree t)
  pub is : J ≡ Tm G t A

types : (b : Contents) (ctx term ty : ℕ) (J : Judgement) → claimed (book_means b) (claim.Tm ctx term ty) ≡ Some J → Types (book_means b) ctx term J
types b ctx term ty J says = from J (form_said (book_means b) c J says) says
  where
    c : Claim
    c = claim.Tm ctx term ty

    from : (K : Judgement) → form_of K ≡ form.Tm → claimed (book_means b) c ≡ Some K → Types (book_means b) ctx term K
    from (Tm G t A) h e = record {
      G = G;
      t = t;
      A = A;
      ctx_is = (claim-field b c (Tm G t A) 0 (AContext G) e refl).is;
      term_is = (claim-field b c (Tm G t A) 1 (ATree t) e refl).is;
      is = refl;
    }
    from K h e = absurd (cc h)

-- what is read of a node that concludes a typing
pub read : (b : Contents) (node ctx term ty : ℕ) → claimed (book_means b) (claim.Tm ctx term ty) ≡ book_concludes b node → IsSome (book_concludes b node)
    → (J : Judgement) × (book_concludes b node ≡ Some J) × Types (book_means b) ctx term J
read b node ctx term ty says some =
    let s = some_of (book_concludes b node) some in
    (s.0, s.1, types b ctx term ty s.0 (says ∙ s.1))

-- it types the tree of any row that means the same, in the empty context
pub closed : (b : Contents) (node ctx term ty row : ℕ) (t : Tree) → claimed (book_means b) (claim.Tm ctx term ty) ≡ book_concludes b node → IsSome (book_concludes b node)
    → book_means b ctx ≡ Some (AContext Nil) → book_means b term ≡ book_means b row → book_means b row ≡ Some (ATree t) → TypesClosed b node t
closed b node ctx term ty row t says some empty same row_is =
    let r = read b node ctx term ty says some in
    let e = r.2 in
    let contexts : Some (AContext e.G) ≡ Some (AContext Nil) = sym e.ctx_is ∙ empty in
    let nil : e.G ≡ Nil = cc in
    let trees : Some (ATree e.t) ≡ Some (ATree t) = sym e.term_is ∙ same ∙ row_is in
    let term_is : e.t ≡ t = cc in
    record { type = e.A; typed = r.1 ∙ ap Some e.is ∙ ap (λ G. Some (Tm G e.t e.A)) nil ∙ ap (λ x. Some (Tm Nil x e.A)) term_is }
