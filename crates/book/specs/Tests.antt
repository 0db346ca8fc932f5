-- What the tests of derivations ask for: a rule of one premise whose parts begin as what it says.
use Rattle.std.specs.Prelude.{◌≡◌, ◌≤◌, ℕ, List, [], ◌∷◌, length, take, Some}
use Rattle.std.specs.List.{All}
use Rattle.theory.specs.declared.rule.RuleName.{RuleName}
use Rattle.trees.specs.Language.{Ctx, Ty, TyEq, Tm, TmEq, Sb}
use Rattle.trees.specs.Judgements.{Judgement}
use Rattle.trees.specs.Things.{Thing, ATree, ASubst, AContext}
use Rattle.rules.specs.Instances.{IsInstance}
use Rattle.rules.specs.Shifts.{ShiftFits}
use Rattle.book.specs.Contents.{Contents}
use Rattle.book.specs.Shown.{book_concludes}

abbrev pub things_in : Judgement → List Thing
things_in (Ctx G) = AContext G ∷ []
things_in (Ty G A) = AContext G ∷ ATree A ∷ []
things_in (TyEq G A B) = AContext G ∷ ATree A ∷ ATree B ∷ []
things_in (Tm G a A) = AContext G ∷ ATree a ∷ ATree A ∷ []
things_in (TmEq G a b A) = AContext G ∷ ATree a ∷ ATree b ∷ ATree A ∷ []
things_in (Sb H d G) = AContext H ∷ ASubst d ∷ AContext G ∷ []

-- over the first things of what the premise concludes, the rule gives K
pub record Follows (b : Contents) (rule : RuleName) (count premise : ℕ) (K : Judgement) :
    Type 0 where
  pub first : Judgement
  pub concludes : book_concludes b premise ≡ Some first
  pub within : count ≤ length (things_in first)
  pub shifts : All ShiftFits (take count (things_in first))
  pub instance : IsInstance rule (take count (things_in first)) (first ∷ []) K
