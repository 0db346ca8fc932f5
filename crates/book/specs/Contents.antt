-- What a book holds.
use Rattle.std.specs.Prelude.{ℕ, List}

-- the words of rows and of nodes, and how many more of them surely have room
pub record Contents : Type 0 where
  pub rows : List (List ℕ)
  pub nodes : List (List ℕ)
  pub spare : ℕ
