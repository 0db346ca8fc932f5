-- Typings of closed terms.
use Rattle.std.specs.Prelude.{◌≡◌, ℕ, Some}
use Rattle.trees.specs.Trees.{Tree}
use Rattle.trees.specs.Judgements.{Nil}
use Rattle.trees.specs.Language.{Tm}
use Rattle.book.specs.Contents.{Contents}
use Rattle.book.specs.Shown.{book_concludes}

-- the node concludes `[] >> t : A`
pub record TypesClosed (b : Contents) (node : ℕ) (t : Tree) : Type 0 where
  pub type : Tree
  pub typed : book_concludes b node ≡ Some (Tm Nil t type)
