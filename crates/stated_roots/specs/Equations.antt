-- Equations of closed terms.
use Rattle.std.specs.Prelude.{◌≡◌, ℕ, Some}
use Rattle.trees.specs.Trees.{Tree}
use Rattle.trees.specs.Judgements.{Nil}
use Rattle.trees.specs.Language.{Tm, TmEq}
use Rattle.trees.specs.Things.{ATree}
use Rattle.book.specs.Contents.{Contents}
use Rattle.book.specs.Shown.{book_concludes, book_means}

-- one node concludes `[] >> t = n : A`, and another one `[] >> t : A`; the row is that of n
pub record EquatesClosed (b : Contents) (equation typing right : ℕ) : Type 0 where
  pub term : Tree
  pub other : Tree
  pub type : Tree
  pub typed : book_concludes b typing ≡ Some (Tm Nil term type)
  pub means : book_means b right ≡ Some (ATree other)
  pub equal : book_concludes b equation ≡ Some (TmEq Nil term other type)
