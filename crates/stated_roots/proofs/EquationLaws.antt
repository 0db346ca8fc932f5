-- Claims of equations and of typings.
use Rattle.std.proofs.Common.{◌≡◌, ℕ, refl, sym, ◌∙◌, ap, subst, Option, Some, None, IsSome}
use Rattle.trees.specs.Judgements.{Judgement, Context, Nil}
use Rattle.trees.specs.Language.{Tm, TmEq}
use Rattle.trees.specs.Trees.{Tree}
use Rattle.trees.specs.Claimed.{claimed}
use Rattle.trees.specs.Things.{Meanings, ATree, AContext}
use Rattle.trees.specs.Claims.{form_of as form_of_claim}
use Rattle.trees.specs.declared.claim.Claim.{Claim}
use Rattle.trees.specs.declared.claim.Claim.TheVariants as claim
use Rattle.trees.specs.declared.claim.JudgementForm.TheVariants as form
use Rattle.compare.proofs.ClaimLaws.{form_of, said_of}
use Rattle.recipe_runner.proofs.BuildLaws.{claim-field, some-is}
use Rattle.book.specs.Contents.{Contents}
use Rattle.book.specs.Shown.{book_concludes, book_means}
use Rattle.stated_roots.specs.Equations.{EquatesClosed}

-- what the rows of an equation mean
pub record Equates (f : Meanings) (ctx left right ty : ℕ) (J : Judgement) : Type 0 where
  pub G : Context
  pub t : Tree
  pub n : Tree
  pub A : Tree
  pub ctx_is : f ctx ≡ Some (AContext G)
  pub left_is : f left ≡ Some (ATree t)
  pub right_is : f right ≡ Some (ATree n)
  pub ty_is : f ty ≡ Some (ATree A)
  pub is : J ≡ TmEq G t n A

-- a claim says a judgement of its form
pub form_said : (f : Meanings) (c : Claim) (J : Judgement) → claimed f c ≡ Some J → form_of J ≡ form_of_claim c
form_said f c J says =
    let s = said_of f c (some-is (claimed f c) J says) in
    let both : Some s.judgement ≡ Some J = sym s.says ∙ says in
    let same : s.judgement ≡ J = cc in
    subst (λ x. form_of x ≡ form_of_claim c) same s.is.form

pub equates : (b : Contents) (ctx left right ty : ℕ) (J : Judgement) → claimed (book_means b) (claim.TmEq ctx left right ty) ≡ Some J → Equates (book_means b) ctx left right ty J
equates b ctx left right ty J says = from J (form_said (book_means b) c J says) says
  where
    c : Claim
    c = claim.TmEq ctx left right ty

    from : (K : Judgement) → form_of K ≡ form.TmEq → claimed (book_means b) c ≡ Some K → Equates (book_means b) ctx left right ty K
    from (TmEq G t n A) h e = record {
      G = G;
      t = t;
      n = n;
      A = A;
      ctx_is = (claim-field b c (TmEq G t n A) 0 (AContext G) e refl).is;
      left_is = (claim-field b c (TmEq G t n A) 1 (ATree t) e refl).is;
      right_is = (claim-field b c (TmEq G t n A) 2 (ATree n) e refl).is;
      ty_is = (claim-field b c (TmEq G t n A) 3 (ATree A) e refl).is;
      is = refl;
    }
    from K h e = absurd (cc h)

-- the typing of its left side
pub types_left : (f : Meanings) (ctx left right ty : ℕ) (J : Judgement) → (e : Equates f ctx left right ty J) → claimed f (claim.Tm ctx left ty) ≡ Some (Tm e.G e.t e.A)
types_left f ctx left right ty J e = rw e.ctx_is (rw e.left_is (rw e.ty_is refl))

pub some_of : {A : Type 0} (o : Option A) → IsSome o → (x : A) × (o ≡ Some x)
some_of None some = cc
some_of (Some x) some = (x, refl)

-- what is read of a node that concludes an equation
pub read : (b : Contents) (equation ctx left right ty : ℕ) → claimed (book_means b) (claim.TmEq ctx left right ty) ≡ book_concludes b equation → IsSome (book_concludes b equation) → (J : Judgement) × (book_concludes b equation ≡ Some J) × Equates (book_means b) ctx left right ty J
read b equation ctx left right ty says some =
    let s = some_of (book_concludes b equation) some in
    (s.0, s.1, equates b ctx left right ty s.0 (says ∙ s.1))

pub closed : (b : Contents) (equation typing ctx left right ty : ℕ) (other : Claim) → claimed (book_means b) (claim.TmEq ctx left right ty) ≡ book_concludes b equation → IsSome (book_concludes b equation) → book_means b ctx ≡ Some (AContext Nil)
    → claimed (book_means b) other ≡ book_concludes b typing → claimed (book_means b) (claim.Tm ctx left ty) ≡ claimed (book_means b) other → EquatesClosed b equation typing right
closed b equation typing ctx left right ty other says some empty there same =
    let r = read b equation ctx left right ty says some in
    let e = r.2 in
    let both : Some (AContext e.G) ≡ Some (AContext Nil) = sym e.ctx_is ∙ empty in
    let nil : e.G ≡ Nil = cc in
    record {
      term = e.t;
      other = e.n;
      type = e.A;
      typed = sym there ∙ sym same ∙ types_left (book_means b) ctx left right ty r.0 e ∙ ap (λ G. Some (Tm G e.t e.A)) nil;
      means = e.right_is;
      equal = r.1 ∙ ap Some e.is ∙ ap (λ G. Some (TmEq G e.t e.n e.A)) nil;
    }
