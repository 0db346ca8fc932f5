-- What the numbers of a run stand for, and when a recipe may be run.
use Rattle.std.specs.Prelude.{◌≡◌, ℕ, List, [], ◌∷◌, map, Some, sum_by, slice_get, slice_index}
use Rattle.trees.specs.Judgements.{Judgement}
use Rattle.trees.specs.Things.{Thing, meanings}
use Rattle.theory.specs.declared.rule.RuleName.{RuleName}
use Rattle.rules.specs.Schemas.{most_rows}
use Rattle.book.specs.Contents.{Contents}
use Rattle.book.specs.Shown.{book_means, book_concludes}
use Rattle.recipes.specs.declared.row.Row.{Row}
use Rattle.recipes.specs.declared.row.Row.TheVariants as row
use Rattle.recipes.specs.Made.{Made, AThing, ANode, built_by}
use Rattle.recipes.specs.Statements.{Statement}
use Rattle.recipes.specs.Derivations.{Concludes, FollowsFrom, ThenTakes, Makes, Runs, RunsTo}
use Rattle.recipes.specs.Derivations.{MayStandAt, premises_at, conclusions_at}

-- the number is that of a row that means the thing, or of a node that concludes the judgement
abbrev pub IsNumberOf : Contents → Made → ℕ → Type 0
IsNumberOf b (AThing x) n = book_means b n ≡ Some x
IsNumberOf b (ANode J) n = book_concludes b n ≡ Some J

-- the numbers are those of what the rows of a recipe made, in order
abbrev pub AreNumbersOf : Contents → List Made → List ℕ → Type 0
AreNumbersOf b [] [] = Unit {0}
AreNumbersOf b (m ∷ ms) (n ∷ ns) = IsNumberOf b m n × AreNumbersOf b ms ns
AreNumbersOf b _ _ = ⊥

-- the numbers at these places
abbrev pub numbers_at : List ℕ → List ℕ → List ℕ
numbers_at made places = map (slice_index made) places

-- over what these numbers stand for the row builds x
pub record Builds (b : Contents) (made : List ℕ) (r : Row) (x : Thing) : Type 0 where
  pub known : List Made
  pub numbers : AreNumbersOf b known made
  pub built : built_by [] known r ≡ Some x
  pub takes : ThenTakes known r

-- over what these numbers stand for the rule concludes J
pub record Infers (b : Contents) (made : List ℕ) (name : RuleName) (parts nodes : List ℕ)
    (J : Judgement) : Type 0 where
  pub known : List Made
  pub numbers : AreNumbersOf b known made
  pub concludes : Concludes known name parts nodes J

-- over what these numbers stand for the earlier recipe of that number gives this
pub record Supplies (earlier : List Statement) (b : Contents) (made : List ℕ) (k : ℕ)
    (parts nodes : List ℕ) (gives : List Judgement) : Type 0 where
  pub known : List Made
  pub numbers : AreNumbersOf b known made
  pub follows : FollowsFrom earlier known k parts nodes gives

-- the earlier recipe of that number may stand at these parts and premises, and gives this
pub record MayDerive (earlier : List Statement) (b : Contents) (k : ℕ) (parts premises : List ℕ)
    (gives : List Judgement) : Type 0 where
  pub statement : Statement
  pub things : List Thing
  pub is : slice_get earlier k ≡ Some statement
  pub parts_are : meanings (book_means b) parts ≡ Some things
  pub premises_are : meanings (book_concludes b) premises ≡ Some (premises_at statement things)
  pub may_stand : MayStandAt statement things
  pub given : gives ≡ conclusions_at statement things

-- over these parts and premises, and what these numbers stand for, the row makes m; it is of no
-- earlier recipe
pub record MakesOne (b : Contents) (parts premises made : List ℕ) (r : Row) (m : Made) :
    Type 0 where
  pub things : List Thing
  pub judgements : List Judgement
  pub known : List Made
  pub parts_are : meanings (book_means b) parts ≡ Some things
  pub premises_are : meanings (book_concludes b) premises ≡ Some judgements
  pub numbers : AreNumbersOf b known made
  pub makes : Makes [] things judgements known r (m ∷ [])

-- over these parts and premises, and what these numbers stand for, the row makes this
pub record MakesAll (earlier : List Statement) (b : Contents) (parts premises made : List ℕ)
    (r : Row) (new : List Made) : Type 0 where
  pub things : List Thing
  pub judgements : List Judgement
  pub known : List Made
  pub parts_are : meanings (book_means b) parts ≡ Some things
  pub premises_are : meanings (book_concludes b) premises ≡ Some judgements
  pub numbers : AreNumbersOf b known made
  pub makes : Makes earlier things judgements known r new

-- over these parts and premises, and what these numbers stand for, the rows go on to `whole`
pub record GoesOn (earlier : List Statement) (b : Contents) (parts premises made : List ℕ)
    (rows : List Row) (whole : List Made) : Type 0 where
  pub things : List Thing
  pub judgements : List Judgement
  pub known : List Made
  pub parts_are : meanings (book_means b) parts ≡ Some things
  pub premises_are : meanings (book_concludes b) premises ≡ Some judgements
  pub numbers : AreNumbersOf b known made
  pub runs : Runs earlier things judgements known rows whole

-- the recipe is right over these parts and premises, and concludes this
pub record MayRun (earlier : List Statement) (b : Contents) (rows : List Row)
    (outs parts premises : List ℕ) (gives : List Judgement) : Type 0 where
  pub things : List Thing
  pub judgements : List Judgement
  pub parts_are : meanings (book_means b) parts ≡ Some things
  pub premises_are : meanings (book_concludes b) premises ≡ Some judgements
  pub runs : RunsTo earlier things judgements rows outs gives

-- what wants nothing and gives nothing
abbrev pub nothing : Statement
nothing = record { kinds = []; wants = []; sides = []; gives = [] }

-- The most rows and nodes that a row adds to a book, where earlier recipes add so many at most.

abbrev pub most_added : (ℕ → ℕ) → Row → ℕ
most_added most (row.Conclude name ps ns) = most_rows name
most_added most (row.Derive k ps ns) = most k
most_added most _ = 1

abbrev pub most_added_by : (ℕ → ℕ) → List Row → ℕ
most_added_by most rows = sum_by (most_added most) rows

-- The most numbers of what a row makes. An earlier recipe has at most 16 conclusions.

abbrev pub most_made : Row → ℕ
most_made (row.Derive k ps ns) = 16
most_made _ = 1

abbrev pub most_made_by : List Row → ℕ
most_made_by rows = sum_by most_made rows
