-- The judgement that a claim is.
use Rattle.std.specs.Prelude.{List, [], ◌∷◌, Option, Some, None, option_and_then}
use Rattle.trees.specs.declared.claim.Claim.{Claim}
use Rattle.trees.specs.declared.claim.JudgementForm.{JudgementForm}
use Rattle.trees.specs.declared.claim.JudgementForm.TheVariants as form
use Rattle.trees.specs.Language.{Ctx, Ty, TyEq, Tm, TmEq, Sb}
use Rattle.trees.specs.Judgements.{Judgement}
use Rattle.trees.specs.Things.{Thing, ATree, ASubst, AContext, Meanings, meanings}
use Rattle.trees.specs.Claims.{form_of, rows_of}

-- the judgement of that form over these things
abbrev pub judged : JudgementForm → List Thing → Option Judgement
judged form.Ctx (AContext G ∷ []) = Some (Ctx G)
judged form.Ty (AContext G ∷ ATree A ∷ []) = Some (Ty G A)
judged form.TyEq (AContext G ∷ ATree A ∷ ATree B ∷ []) = Some (TyEq G A B)
judged form.Tm (AContext G ∷ ATree a ∷ ATree A ∷ []) = Some (Tm G a A)
judged form.TmEq (AContext G ∷ ATree a ∷ ATree b ∷ ATree A ∷ []) = Some (TmEq G a b A)
judged form.Sb (AContext H ∷ ASubst d ∷ AContext G ∷ []) = Some (Sb H d G)
judged _ _ = None

abbrev pub said : JudgementForm → Option (List Thing) → Option Judgement
said form = option_and_then (judged form)

-- the judgement that a claim is, where its rows mean things of the right kinds
abbrev pub claimed : Meanings → Claim → Option Judgement
claimed f claim = said (form_of claim) (meanings f (rows_of claim))
