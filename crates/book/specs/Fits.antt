-- What a test of a use of a rule finds.
use Rattle.std.specs.Prelude.{◌≡◌, ◌<◌, ℕ, List, [], ◌∷◌, Option, Some, None, IfSome}
use Rattle.std.specs.Prelude.{length, take, get_or, option_and_then}
use Rattle.std.specs.List.{All}
use Rattle.theory.specs.declared.rule.RuleName.{RuleName}
use Rattle.theory.specs.RuleNames.{kinds_of, premises_of}
use Rattle.trees.specs.declared.kind.PartKind.{PartKind}
use Rattle.trees.specs.declared.kind.PartKind.TheVariants as part
use Rattle.trees.specs.Trees.{greatest_shift}
use Rattle.trees.specs.Judgements.{Judgement, SideCondition, TreeRule}
use Rattle.trees.specs.Things.{Thing, Meanings, meanings}
use Rattle.rows.specs.Views.{IsTree, IsContext, ShiftAtMost}
use Rattle.conditions.specs.Sides.{SideHolds}
use Rattle.rules.specs.Claims.{rule_over, premise_at, side_at, sides_in}
use Rattle.rules.specs.Shifts.{ShiftsFit}
use Rattle.book.specs.declared.few.RuleUse.{RuleUse}
use Rattle.book.specs.declared.trying.Fit.{Fit}
use Rattle.book.specs.declared.trying.Fit.TheVariants as fit
use Rattle.book.specs.Contents.{Contents}
use Rattle.book.specs.Right.{IsUse}
use Rattle.book.specs.Shown.{book_means, book_concludes}

-- a thing of that kind; the shift of a substitution is one that `then` takes
abbrev pub IsPart : PartKind → Option Thing → Type 0
IsPart part.Term = IsTree
IsPart part.Subst = ShiftAtMost greatest_shift
IsPart part.Context = IsContext

-- as many as the kinds, each a part of its kind
abbrev pub AreParts : Meanings → List PartKind → List ℕ → Type 0
AreParts f [] [] = Unit {0}
AreParts f (kind ∷ kinds) (row ∷ rows) = IsPart kind (f row) × AreParts f kinds rows
AreParts f _ _ = ⊥

-- the premises that a rule wants, and its side conditions
abbrev pub wants_of : Option TreeRule → Option (List Judgement)
wants_of = option_and_then (λ r. Some r.wants)

abbrev pub sides_of : Option TreeRule → List SideCondition
sides_of None = []
sides_of (Some r) = r.sides

-- the rule at the parts of a use
abbrev pub rule_in : Contents → RuleUse → Option TreeRule
rule_in b step = rule_over step.rule (meanings (book_means b) step.parts)

-- its premises are as many as the rule has, and all its parts are parts of the rule
pub record IsShaped (b : Contents) (step : RuleUse) : Type 0 where
  pub parts : AreParts (book_means b) (kinds_of step.rule) step.parts
  pub count : length step.premises ≡ premises_of step.rule

-- the use is an instance of its rule, which `conclude` takes
pub record MayConclude (b : Contents) (step : RuleUse) : Type 0 where
  pub judgement : Judgement
  pub right : IsUse (book_means b) (book_concludes b) step.rule step.parts step.premises judgement
  pub shifts : ShiftsFit (meanings (book_means b) step.parts)

-- the first k premises conclude what the rule wants, and the next does not
pub record FailsAtPremise (b : Contents) (step : RuleUse) (k : ℕ) : Type 0 where
  pub within : k < premises_of step.rule
  pub before : meanings (book_concludes b) (take k step.premises)
      ≡ option_and_then (λ r. Some (take k r.wants)) (rule_in b step)
  pub fails : book_concludes b (get_or step.premises k 0) ≡ premise_at k (rule_in b step) → ⊥

-- the first k side conditions hold, and the next does not
pub record FailsAtSide (b : Contents) (step : RuleUse) (k : ℕ) : Type 0 where
  pub within : k < sides_in (rule_in b step)
  pub before : All SideHolds (take k (sides_of (rule_in b step)))
  pub fails : IfSome (side_at k (rule_in b step)) SideHolds → ⊥

-- the first thing that is not as the rule has it, if there is one
abbrev pub Finds : Contents → RuleUse → Fit → Type 0
Finds b step fit.Fits = MayConclude b step
Finds b step fit.Parts = AreParts (book_means b) (kinds_of step.rule) step.parts → ⊥
Finds b step fit.Count = AreParts (book_means b) (kinds_of step.rule) step.parts
    × (length step.premises ≡ premises_of step.rule → ⊥)
Finds b step (fit.Premise k) = IsShaped b step × FailsAtPremise b step k
Finds b step (fit.Side k) = IsShaped b step
    × (meanings (book_concludes b) step.premises ≡ wants_of (rule_in b step))
    × FailsAtSide b step k
