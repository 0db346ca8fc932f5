-- Right sides of equations.
use Rattle.std.proofs.Common.{◌≡◌, ℕ, refl, sym, ◌∙◌, subst, Option, Some, None, IsSome}
use Rattle.trees.specs.Judgements.{Judgement}
use Rattle.trees.specs.Language.{TyEq, TmEq}
use Rattle.trees.specs.Claimed.{claimed}
use Rattle.trees.specs.Things.{Meanings, ATree, AContext}
use Rattle.trees.specs.Claims.{form_of as form_of_claim}
use Rattle.trees.specs.declared.claim.Claim.{Claim}
use Rattle.trees.specs.declared.claim.Claim.TheVariants as claim
use Rattle.trees.specs.declared.claim.JudgementForm.TheVariants as form
use Rattle.compare.proofs.ClaimLaws.{form_of, said_of}
use Rattle.recipe_runner.proofs.BuildLaws.{claim-field, some-is}
use Rattle.book.specs.Contents.{Contents}
use Rattle.book.specs.Shown.{book_concludes, book_means}
use Rattle.evidence.specs.declared.sides.Side.{Side}
use Rattle.evidence.specs.declared.sides.Sort.TheVariants as sort
use Rattle.evidence.specs.Sides.{IsSide}

pub some_of : {A : Type 0} (o : Option A) → IsSome o → (x : A) × (o ≡ Some x)
some_of None some = cc
some_of (Some x) some = (x, refl)

-- a claim is of the form of the judgement that it is
pub formed : (f : Meanings) (c : Claim) (J : Judgement) → claimed f c ≡ Some J → form_of J ≡ form_of_claim c
formed f c J says =
    let s = said_of f c (some-is (claimed f c) J says) in
    let both : Some s.judgement ≡ Some J = sym s.says ∙ says in
    let same : s.judgement ≡ J = cc in
    subst (λ K. form_of K ≡ form_of_claim c) same s.is.form

pub of_types : (b : Contents) (equation ctx left right : ℕ) → claimed (book_means b) (claim.TyEq ctx left right) ≡ book_concludes b equation → IsSome (book_concludes b equation) → IsSide b equation (record { sort = sort.Types; ctx = record { 0 = ctx }; right = record { 0 = right } })
of_types b equation ctx left right says some =
    let s = some_of (book_concludes b equation) some in
    from s.0 (formed (book_means b) (claim.TyEq ctx left right) s.0 (says ∙ s.1)) (says ∙ s.1) s.1
  where
    from : (J : Judgement) → form_of J ≡ form.TyEq → claimed (book_means b) (claim.TyEq ctx left right) ≡ Some J → book_concludes b equation ≡ Some J → IsSide b equation (record { sort = sort.Types; ctx = record { 0 = ctx }; right = record { 0 = right } })
    from (TyEq G S n) h e told = record {
      context = G;
      tree = n;
      context_is = (claim-field b (claim.TyEq ctx left right) (TyEq G S n) 0 (AContext G) e refl).is;
      tree_is = (claim-field b (claim.TyEq ctx left right) (TyEq G S n) 2 (ATree n) e refl).is;
      equation_is = (S, told);
    }
    from J h e told = absurd (cc h)

pub of_terms : (b : Contents) (equation ctx left right ty : ℕ) → claimed (book_means b) (claim.TmEq ctx left right ty) ≡ book_concludes b equation → IsSome (book_concludes b equation) → IsSide b equation (record { sort = sort.Terms; ctx = record { 0 = ctx }; right = record { 0 = right } })
of_terms b equation ctx left right ty says some =
    let s = some_of (book_concludes b equation) some in
    from s.0 (formed (book_means b) (claim.TmEq ctx left right ty) s.0 (says ∙ s.1)) (says ∙ s.1) s.1
  where
    from : (J : Judgement) → form_of J ≡ form.TmEq → claimed (book_means b) (claim.TmEq ctx left right ty) ≡ Some J → book_concludes b equation ≡ Some J → IsSide b equation (record { sort = sort.Terms; ctx = record { 0 = ctx }; right = record { 0 = right } })
    from (TmEq G s n A) h e told = record {
      context = G;
      tree = n;
      context_is = (claim-field b (claim.TmEq ctx left right ty) (TmEq G s n A) 0 (AContext G) e refl).is;
      tree_is = (claim-field b (claim.TmEq ctx left right ty) (TmEq G s n A) 2 (ATree n) e refl).is;
      equation_is = (s, A, told);
    }
    from J h e told = absurd (cc h)

-- the side that was told is this one
pub told_as : (b : Contents) (equation : ℕ) (s t : Side) → s ≡ t → IsSide b equation s → IsSide b equation t
told_as b equation s t e is = subst (IsSide b equation) e is
