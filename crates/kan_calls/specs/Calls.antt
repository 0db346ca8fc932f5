-- When a derived rule may be used over a book, and what its use gives.
use Rattle.std.specs.Prelude.{◌≡◌, ◌≤◌, ℕ, List, [], ◌∷◌, length, Some}
use Rattle.trees.specs.Things.{Thing, meanings}
use Rattle.book.specs.Contents.{Contents}
use Rattle.book.specs.Shown.{book_means, book_concludes}
use Rattle.recipes.specs.Statements.{Statement}
use Rattle.book.specs.declared.kernel.NodeId.{NodeId}
use Rattle.recipes.specs.declared.row.Row.{Row}
use Rattle.recipes.specs.Derivations.{Derives, MayStandAt, premises_at, conclusions_at}
use Rattle.recipe_runner.specs.Running.{most_added_by, most_made_by}
use Rattle.kan_calls.specs.declared.calls.Derive.{Derive}
use Rattle.kan_calls.specs.declared.calls.Derived.{Derived}
use Rattle.kan_calls.specs.declared.calls.TheConstants.{MOST_ADDED}

-- the parts mean things at which the statement may stand, and the node of the context and the
-- premises conclude what it wants there
pub record MayCall (s : Statement) (b : Contents) (ctx : ℕ) (parts premises : List ℕ)
    (things : List Thing) : Type 0 where
  pub parts_are : meanings (book_means b) parts ≡ Some things
  pub premises_are : meanings (book_concludes b) (ctx ∷ premises) ≡ Some (premises_at s things)
  pub may_stand : MayStandAt s things

-- the statement may be used so, at what the parts mean
abbrev pub MayUse : Statement → Contents → NodeId → Derive → Type 0
MayUse s b ctx step = (things : List Thing) × MayCall s b ctx.0 step.parts step.premises things

-- the nodes conclude what the statement gives, wherever it may be used so
abbrev pub Gives : Statement → Contents → Contents → NodeId → Derive → Derived → Type 0
Gives s old new ctx step derived =
    (things : List Thing) → MayCall s old ctx.0 step.parts step.premises things
    → meanings (book_concludes new) (derived.typing.0 ∷ derived.equations)
    ≡ Some (conclusions_at s things)

-- Over earlier recipes that add so much at most, the rows derive the statement; a book can run
-- them, and they add no more than that.
pub record IsRecipe (earlier : List Statement) (most : ℕ → ℕ) (s : Statement)
    (rows : List Row) (gives : List ℕ) (added : ℕ) : Type 0 where
  pub derives : Derives earlier s rows gives
  pub made : most_made_by rows ≤ 512
  pub gives_few : length gives ≤ 16
  pub wants_few : length s.wants ≤ 16
  pub adds : most_added_by most rows ≤ added

-- the most rows and nodes that filling adds to a book
abbrev pub most_of_filling : ℕ
most_of_filling = 3198

-- that contraction adds
abbrev pub most_of_contraction : ℕ
most_of_contraction = 412

-- that each adds, of filling, contraction, preservation and extension
abbrev pub most_of_each : List ℕ
most_of_each = most_of_filling ∷ most_of_contraction ∷ MOST_ADDED ∷ 692 ∷ []
