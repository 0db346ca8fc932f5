-- The one earlier recipe runs where it may stand.
use Rattle.std.proofs.Common.{◌≡◌, ℕ, zero, suc, List, [], ◌∷◌, sym, ◌∙◌, ap, subst, Some}
use Rattle.std.specs.Prelude.{slice_get}
use Rattle.trees.specs.Judgements.{Judgement}
use Rattle.trees.specs.Things.{Thing, meanings}
use Rattle.book.specs.Contents.{Contents}
use Rattle.book.specs.Shown.{book_concludes}
use Rattle.recipes.specs.declared.row.Row.{Row}
use Rattle.recipes.specs.Statements.{Statement}
use Rattle.recipes.specs.Derivations.{RunsTo, Derives, MayStandAt, premises_at, conclusions_at}
use Rattle.recipe_runner.specs.Running.{MayDerive, MayRun}

only-one : (s t : Statement) (k : ℕ) → slice_get (s ∷ []) k ≡ Some t → s ≡ t
only-one s t zero e = let same : s ≡ t = cc in same
only-one s t (suc k) e = absurd (cc e)

pub count-one : (s t : Statement) (k n : ℕ) (f : Statement → ℕ) → f s ≡ n → slice_get (s ∷ []) k ≡ Some t → n ≡ f t
count-one s t k n f e at = sym e ∙ ap f (only-one s t k at)

-- what a derivation by an earlier recipe asks for, of its statement
record AtStatement (s : Statement) (b : Contents) (premises : List ℕ) (things : List Thing) (gives : List Judgement) : Type 0 where
  premises_are : meanings (book_concludes b) premises ≡ Some (premises_at s things)
  may_stand : MayStandAt s things
  given : gives ≡ conclusions_at s things

pub may-run-one : (earlier : List Statement) (s : Statement) (b : Contents) (rows : List Row) (outs parts premises : List ℕ) (k : ℕ) (gives : List Judgement) → Derives earlier s rows outs → MayDerive (s ∷ []) b k parts premises gives → MayRun earlier b rows outs parts premises gives
may-run-one earlier s b rows outs parts premises k gives d h =
    let t = subst (λ u. AtStatement u b premises h.things gives) (sym (only-one s h.statement k h.is)) (record { premises_are = h.premises_are; may_stand = h.may_stand; given = h.given }) in
    record {
      things = h.things;
      judgements = premises_at s h.things;
      parts_are = h.parts_are;
      premises_are = t.premises_are;
      runs = subst (λ z. RunsTo earlier h.things (premises_at s h.things) rows outs z) (sym t.given) (d.derives h.things t.may_stand);
    }
