-- When the unfolding of a composition may be run.
use Rattle.std.proofs.Common.{◌≡◌, ℕ, [], ◌∷◌, refl, sym, ap, ◌∙◌, subst, Some}
use Rattle.trees.specs.Judgements.{Context, Judgement}
use Rattle.trees.specs.Language.{Ctx, TmEq}
use Rattle.trees.specs.Things.{AContext, Meanings, meanings}
use Rattle.trees.specs.Claimed.{claimed}
use Rattle.trees.specs.Claims.{form_of as form_of_claim}
use Rattle.trees.specs.declared.claim.Claim.{Claim}
use Rattle.trees.specs.declared.claim.Claim.TheVariants as claim
use Rattle.trees.specs.declared.claim.JudgementForm.TheVariants as form
use Rattle.compare.proofs.ClaimLaws.{form_of, said_of}
use Rattle.recipe_runner.proofs.BuildLaws.{claim-field, some-is}
use Rattle.book.specs.Contents.{Contents}
use Rattle.book.specs.Shown.{book_concludes, book_means}
use Rattle.book.specs.declared.kernel.NodeId.{NodeId}
use Rattle.theory.specs.declared.rule.RuleName.{RuleName}
use Rattle.theory.specs.declared.rule.RuleName.TheVariants.{Composition}
use Rattle.theory.specs.declared.rule.CompRule.{CompRule}
use Rattle.theory.specs.RuleNames.{kinds_of}
use Rattle.kan_calls.specs.Unfoldings.{HasNoSubst, context_of}

said_form : (f : Meanings) (x : Claim) (J : Judgement) → claimed f x ≡ Some J → form_of J ≡ form_of_claim x
said_form f x J e =
    let s = said_of f x (some-is (claimed f x) J e) in
    let both : Some s.judgement ≡ Some J = sym s.says ∙ e in
    let same : s.judgement ≡ J = cc in
    subst (λ K. form_of K ≡ form_of_claim x) same s.is.form

-- an equation in G is concluded, and the row of G stands in the node of a context
pub in_context : (b : Contents) (ctx : NodeId) (J : Judgement) (here there i j k : ℕ) → claimed (book_means b) (claim.TmEq there i j k) ≡ Some J → claimed (book_means b) (claim.Ctx here) ≡ book_concludes b ctx.0 → here ≡ there → meanings (book_concludes b) (ctx.0 ∷ []) ≡ Some (context_of J)
in_context b ctx J here there i j k says context same = from J (said_form (book_means b) (claim.TmEq there i j k) J says) says
  where
    from : (K : Judgement) → form_of K ≡ form.TmEq → claimed (book_means b) (claim.TmEq there i j k) ≡ Some K → meanings (book_concludes b) (ctx.0 ∷ []) ≡ Some (context_of K)
    from (TmEq G u v T) h e =
        let at : book_means b there ≡ Some (AContext G) = (claim-field b (claim.TmEq there i j k) (TmEq G u v T) 0 (AContext G) e refl).is in
        let row : book_means b here ≡ Some (AContext G) = subst (λ r. book_means b r ≡ Some (AContext G)) (sym same) at in
        let told : book_concludes b ctx.0 ≡ Some (Ctx G) = sym context ∙ rw row refl in
        rw told refl
    from K h e = absurd (cc h)

-- a rule that is a rule of composition which is known to have no substitution among its parts
pub no_subst : (r : RuleName) (rule known : CompRule) → r ≡ Composition rule → rule ≡ known → HasNoSubst (kinds_of (Composition known)) → HasNoSubst (kinds_of r)
no_subst r rule known is same plain = subst (λ n. HasNoSubst (kinds_of n)) (sym (is ∙ ap Composition same)) plain
