-- The context that a substitution comes from has a row.
use Rattle.std.proofs.Common.{◌≡◌, ℕ, List, [], ◌∷◌, ◌∙◌, ap, Some}
use Rattle.trees.specs.Trees.{Subst}
use Rattle.trees.specs.Judgements.{Context}
use Rattle.trees.specs.Language.{Sb}
use Rattle.trees.specs.declared.claim.JudgementForm.{JudgementForm}
use Rattle.trees.specs.declared.claim.JudgementForm.TheVariants as form
use Rattle.trees.specs.Things.{Thing, ATree, ASubst, AContext, Meanings, meanings, consed}
use Rattle.trees.specs.Claimed.{judged}
use Rattle.rows.proofs.OptionLaws.{both-some, one-some}
use Rattle.book.specs.Nodes.{node_at, judgement_of, concluded}

-- what is judged to be a substitution begins with the context that it comes from
begins : (f : JudgementForm) (xs : List Thing) (H : Context) (d : Subst) (G : Context) → judged f xs ≡ Some (Sb H d G) → (rest : List Thing) × (xs ≡ AContext H ∷ rest)
begins form.Ctx (AContext K ∷ []) H d G e = absurd (cc e)
begins form.Ty (AContext K ∷ ATree A ∷ []) H d G e = absurd (cc e)
begins form.TyEq (AContext K ∷ ATree A ∷ ATree B ∷ []) H d G e = absurd (cc e)
begins form.Tm (AContext K ∷ ATree a ∷ ATree A ∷ []) H d G e = absurd (cc e)
begins form.TmEq (AContext K ∷ ATree a ∷ ATree b ∷ ATree A ∷ []) H d G e = absurd (cc e)
begins form.Sb (AContext K ∷ ASubst s ∷ AContext L ∷ []) H d G e =
    let same : K ≡ H = cc in
    (ASubst s ∷ AContext L ∷ [], ap (λ z. AContext z ∷ ASubst s ∷ AContext L ∷ []) same)
begins _ _ H d G e = absurd (cc e)

-- where numbers mean these things, one means the first
first_means : (f : Meanings) (ks : List ℕ) (x : Thing) (xs : List Thing) → meanings f ks ≡ Some (x ∷ xs) → (k : ℕ) × (f k ≡ Some x)
first_means f [] x xs e = absurd (cc e)
first_means f (k ∷ ks) x xs e =
    let b = both-some consed (f k) (meanings f ks) (x ∷ xs) e in
    let whole : Some (b.first ∷ b.second) ≡ Some (x ∷ xs) = b.whole in
    let same : b.first ≡ x = cc in
    (k, b.first_is ∙ ap Some same)

pub source_row : (f : Meanings) (nodes : List (List ℕ)) (k : ℕ) (H : Context) (d : Subst) (G : Context) → concluded f nodes k ≡ Some (Sb H d G) → (row : ℕ) × (f row ≡ Some (AContext H))
source_row f nodes k H d G e =
    let o = one-some (judgement_of f) (node_at nodes k) (Sb H d G) e in
    let p = one-some (judged o.first.form) (meanings f o.first.claimed) (Sb H d G) o.whole in
    let b = begins o.first.form p.first H d G p.whole in
    first_means f o.first.claimed (AContext H) b.0 (p.first_is ∙ ap Some b.1)
