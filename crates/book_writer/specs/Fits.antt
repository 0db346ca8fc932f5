-- When all of a book has a derivation file.
use Rattle.std.specs.Prelude.{◌≡◌, ◌≤◌, ◌^◌, ℕ, length, Some}
use Rattle.trees.specs.Trees.{Subst, greatest_shift}
use Rattle.trees.specs.Things.{ASubst}
use Rattle.book.specs.Contents.{Contents}
use Rattle.book.specs.Shown.{book_means}
use Rattle.book_writer.specs.Spelling.{spelt_book}

-- its rows are few enough to be numbered, and it spells each shift
pub record FileFits (b : Contents) : Type 0 where
  pub few : length (spelt_book b.rows b.nodes) ≤ 2 ^ 63
  pub shifts : (k : ℕ) (d : Subst) → book_means b k ≡ Some (ASubst d) → d.shift ≤ greatest_shift
