-- When a derived rule may be called over a book, and what its call gives.
use Rattle.std.specs.Prelude.{◌≡◌, ℕ, nat_lt, Bool, true, List, [], length, take, Some}
use Rattle.std.specs.List.{list_all}
use Rattle.trees.specs.Things.{Thing, meanings}
use Rattle.book.specs.Contents.{Contents}
use Rattle.book.specs.Shown.{book_means, book_concludes}
use Rattle.recipes.specs.declared.row.Row.{Row}
use Rattle.recipes.specs.declared.row.Row.TheVariants as row
use Rattle.recipes.specs.Statements.{Statement}
use Rattle.recipes.specs.Derivations.{Derives, MayStandAt, premises_at, conclusions_at}

-- the row names one of the first so many parts, or none
abbrev pub names_first : ℕ → Row → Bool
names_first n (row.Part k) = nat_lt k n
names_first n _ = true

-- the table derives the statement, and reads all parts but the first so many from the premises
pub record IsTableOf (s : Statement) (rows : List Row) (gives : List ℕ) (n : ℕ) : Type 0 where
  pub derives : Derives [] s rows gives
  pub first : list_all (names_first n) rows ≡ true

-- the first parts mean the first of these things, at which the statement may stand, and the
-- premises conclude what it wants there
pub record MayCall (s : Statement) (b : Contents) (parts premises : List ℕ) (things : List Thing) :
    Type 0 where
  pub parts_are : meanings (book_means b) parts ≡ Some (take (length parts) things)
  pub premises_are : meanings (book_concludes b) premises ≡ Some (premises_at s things)
  pub may_stand : MayStandAt s things

-- the nodes conclude what the statement gives, wherever it may be called so
abbrev pub Gives : Statement → Contents → Contents → List ℕ → List ℕ → List ℕ → Type 0
Gives s old new parts premises nodes =
    (things : List Thing) → MayCall s old parts premises things
    → meanings (book_concludes new) nodes ≡ Some (conclusions_at s things)
