-- What a node concludes whose claim has this form.
use Rattle.std.proofs.Common.{◌≡◌, ℕ, List, [], ◌∷◌, Option, Some, None, IsSome, refl, sym, ap, ◌∙◌}
use Rattle.trees.specs.Trees.{Tree, Subst}
use Rattle.trees.specs.Judgements.{Context, Judgement}
use Rattle.trees.specs.Language.{Ctx, Ty, TyEq, Tm, TmEq, Sb}
use Rattle.trees.specs.Things.{Thing, ATree, ASubst, AContext, meanings}
use Rattle.trees.specs.declared.claim.JudgementForm.{JudgementForm}
use Rattle.trees.specs.declared.claim.JudgementForm.TheVariants as form
use Rattle.trees.specs.declared.claim.Claim.{Claim}
use Rattle.trees.specs.Claims.{form_of, rows_of}
use Rattle.trees.specs.Claimed.{judged, claimed}
use Rattle.rows.proofs.OptionLaws.{one-some}
use Rattle.book.specs.Contents.{Contents}
use Rattle.book.specs.Shown.{book_means, book_concludes}
use Rattle.book.specs.declared.kernel.NodeId.{NodeId}
use Rattle.typed_nodes.specs.Typed.{Says}
use Rattle.presupposed.specs.Asked.{IsAt, IsIn}

-- the form of a judgement
abbrev form_in : Judgement → JudgementForm
form_in (Ctx G) = form.Ctx
form_in (Ty G A) = form.Ty
form_in (TyEq G A B) = form.TyEq
form_in (Tm G a A) = form.Tm
form_in (TmEq G a b A) = form.TmEq
form_in (Sb H d G) = form.Sb

of_form : (f : JudgementForm) (xs : List Thing) (J : Judgement) → judged f xs ≡ Some J → form_in J ≡ f
of_form form.Ctx (AContext G ∷ []) J e = let p : Ctx G ≡ J = cc in rw (sym p) refl
of_form form.Ty (AContext G ∷ ATree A ∷ []) J e = let p : Ty G A ≡ J = cc in rw (sym p) refl
of_form form.TyEq (AContext G ∷ ATree A ∷ ATree B ∷ []) J e = let p : TyEq G A B ≡ J = cc in rw (sym p) refl
of_form form.Tm (AContext G ∷ ATree a ∷ ATree A ∷ []) J e = let p : Tm G a A ≡ J = cc in rw (sym p) refl
of_form form.TmEq (AContext G ∷ ATree a ∷ ATree b ∷ ATree A ∷ []) J e = let p : TmEq G a b A ≡ J = cc in rw (sym p) refl
of_form form.Sb (AContext H ∷ ASubst d ∷ AContext G ∷ []) J e = let p : Sb H d G ≡ J = cc in rw (sym p) refl
of_form f xs J e = cc

record IsConcluded (b : Contents) (node : NodeId) (f : JudgementForm) : Type 0 where
  judgement : Judgement
  says : Says b node judgement
  form : form_in judgement ≡ f

-- there is a node, and its claim has that form
abbrev pub Claims : Contents → NodeId → Claim → JudgementForm → Type 0
Claims b node claim f = IsSome (book_concludes b node.0)
    × (claimed (book_means b) claim ≡ book_concludes b node.0) × (form_of claim ≡ f)

concluded : (b : Contents) (node : NodeId) (claim : Claim) (f : JudgementForm) → Claims b node claim f → IsConcluded b node f
concluded b node claim f c = from (book_concludes b node.0) refl c.0
  where
    from : (o : Option Judgement) → book_concludes b node.0 ≡ o → IsSome o → IsConcluded b node f
    from None is some = cc
    from (Some J) is some =
        let o = one-some (judged (form_of claim)) (meanings (book_means b) (rows_of claim)) J (c.1 ∙ is) in
        record { judgement = J; says = is; form = of_form (form_of claim) o.first J o.whole ∙ c.2 }

pub type_said : (b : Contents) (node : NodeId) (claim : Claim) → Claims b node claim form.Ty → (G : Context) × (A : Tree) × Says b node (Ty G A)
type_said b node claim c =
    let k = concluded b node claim form.Ty c in
    from k.judgement k.says k.form
  where
    from : (J : Judgement) → Says b node J → form_in J ≡ form.Ty → (G : Context) × (A : Tree) × Says b node (Ty G A)
    from (Ty G A) says is = (G, A, says)
    from J says is = cc

pub substitution_said : (b : Contents) (node : NodeId) (claim : Claim) → Claims b node claim form.Sb → (H G : Context) × (d : Subst) × Says b node (Sb H d G)
substitution_said b node claim c =
    let k = concluded b node claim form.Sb c in
    from k.judgement k.says k.form
  where
    from : (J : Judgement) → Says b node J → form_in J ≡ form.Sb → (H G : Context) × (d : Subst) × Says b node (Sb H d G)
    from (Sb H d G) says is = (H, G, d, says)
    from J says is = cc

pub term_at : (b : Contents) (node : NodeId) (claim : Claim) → Claims b node claim form.Tm → (G : Context) × (A : Tree) × IsAt b node G A
term_at b node claim c =
    let k = concluded b node claim form.Tm c in
    from k.judgement k.says k.form
  where
    from : (J : Judgement) → Says b node J → form_in J ≡ form.Tm → (G : Context) × (A : Tree) × IsAt b node G A
    from (Tm G a A) says is = (G, A, (Tm G a A, says, (refl, refl)))
    from J says is = cc

pub equation_at : (b : Contents) (node : NodeId) (claim : Claim) → Claims b node claim form.TmEq → (G : Context) × (A : Tree) × IsAt b node G A
equation_at b node claim c =
    let k = concluded b node claim form.TmEq c in
    from k.judgement k.says k.form
  where
    from : (J : Judgement) → Says b node J → form_in J ≡ form.TmEq → (G : Context) × (A : Tree) × IsAt b node G A
    from (TmEq G a u A) says is = (G, A, (TmEq G a u A, says, (refl, refl)))
    from J says is = cc

pub type_in : (b : Contents) (node : NodeId) (claim : Claim) → Claims b node claim form.Ty → (G : Context) × IsIn b node G
type_in b node claim c =
    let k = concluded b node claim form.Ty c in
    from k.judgement k.says k.form
  where
    from : (J : Judgement) → Says b node J → form_in J ≡ form.Ty → (G : Context) × IsIn b node G
    from (Ty G A) says is = (G, (Ty G A, says, refl))
    from J says is = cc

pub types_in : (b : Contents) (node : NodeId) (claim : Claim) → Claims b node claim form.TyEq → (G : Context) × IsIn b node G
types_in b node claim c =
    let k = concluded b node claim form.TyEq c in
    from k.judgement k.says k.form
  where
    from : (J : Judgement) → Says b node J → form_in J ≡ form.TyEq → (G : Context) × IsIn b node G
    from (TyEq G A B) says is = (G, (TyEq G A B, says, refl))
    from J says is = cc

pub term_in : (b : Contents) (node : NodeId) (claim : Claim) → Claims b node claim form.Tm → (G : Context) × IsIn b node G
term_in b node claim c =
    let k = concluded b node claim form.Tm c in
    from k.judgement k.says k.form
  where
    from : (J : Judgement) → Says b node J → form_in J ≡ form.Tm → (G : Context) × IsIn b node G
    from (Tm G a A) says is = (G, (Tm G a A, says, refl))
    from J says is = cc

pub terms_in : (b : Contents) (node : NodeId) (claim : Claim) → Claims b node claim form.TmEq → (G : Context) × IsIn b node G
terms_in b node claim c =
    let k = concluded b node claim form.TmEq c in
    from k.judgement k.says k.form
  where
    from : (J : Judgement) → Says b node J → form_in J ≡ form.TmEq → (G : Context) × IsIn b node G
    from (TmEq G a u A) says is = (G, (TmEq G a u A, says, refl))
    from J says is = cc
