-- What is seen of stored rows.
use Rattle.std.specs.Prelude.{ℕ, List}

-- rows, and for how many more there is room beside that for their words, and how many words more
-- surely have room
pub record Stored : Type 0 where
  pub rows : List (List ℕ)
  pub room : ℕ
  pub spare_words : ℕ
