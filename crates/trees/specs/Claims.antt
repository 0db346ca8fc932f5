-- The form and the rows of a claim.
use Rattle.std.specs.Prelude.{ℕ, List, [], ◌∷◌}
use Rattle.trees.specs.declared.claim.Claim.{Claim}
use Rattle.trees.specs.declared.claim.Claim.TheVariants.{Ctx, Ty, TyEq, Tm, TmEq, Sb}
use Rattle.trees.specs.declared.claim.JudgementForm.{JudgementForm}
use Rattle.trees.specs.declared.claim.JudgementForm.TheVariants as form

abbrev pub form_of : Claim → JudgementForm
form_of (Ctx G) = form.Ctx
form_of (Ty G A) = form.Ty
form_of (TyEq G A B) = form.TyEq
form_of (Tm G a A) = form.Tm
form_of (TmEq G a b A) = form.TmEq
form_of (Sb H d G) = form.Sb

abbrev pub rows_of : Claim → List ℕ
rows_of (Ctx G) = G ∷ []
rows_of (Ty G A) = G ∷ A ∷ []
rows_of (TyEq G A B) = G ∷ A ∷ B ∷ []
rows_of (Tm G a A) = G ∷ a ∷ A ∷ []
rows_of (TmEq G a b A) = G ∷ a ∷ b ∷ A ∷ []
rows_of (Sb H d G) = H ∷ d ∷ G ∷ []
