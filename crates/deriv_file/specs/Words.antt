-- The words of a line, and what is read from them.
use Rattle.std.specs.Prelude.{◌≡◌, ℕ, List, [], ◌++◌, map, length}
use Rattle.std.specs.Prelude.{decimal, ◌==◌, Option, Some, None}
use Rattle.std.specs.List.{All, slice_split}
use Rattle.std.specs.Io.BufRead.{take_through, drop_through}
use denote.Ref.{Bor}
use Rattle.deriv_file.specs.declared.row.Row.{Row}
use Rattle.deriv_file.specs.Spelling.{words_of, Earlier, MayStand, Spells}

-- the words between the spaces of a line
abbrev pub line_words : List ℕ → List (List ℕ)
line_words line = slice_split (λ b. b == 32) line

-- the words that are left, where the rest of the line is left or nothing is
abbrev pub words_left : Option (Bor (List ℕ)) → List (List ℕ)
words_left None = []
words_left (Some rest) = line_words rest.now

-- the words begin with the numbers of so many rows before row `at`
pub record BeginWith (words : List (List ℕ)) (count at : ℕ) (ids : List ℕ) (more : List (List ℕ)) :
    Type 0 where
  pub spelt : words ≡ map decimal ids ++ more
  pub counted : length ids ≡ count
  pub earlier : All (Earlier at) ids

-- what is read of the words of a line at a place: the row that has them, or nothing where none has
abbrev pub Reads : ℕ → ℕ → List (List ℕ) → Option Row → Type 0
Reads version at words None = (row : Row) → words ≡ words_of row → MayStand version at row → ⊥
Reads version at words (Some row) = (words ≡ words_of row) × MayStand version at row

-- what is read of bytes at a place: the row that their first line spells, with the bytes after it,
-- or nothing where it spells none
abbrev pub ReadsLine : ℕ → ℕ → List ℕ → Option (Row × Bor (List ℕ)) → Type 0
ReadsLine version at bytes None = (row : Row) → Spells version at (take_through 10 bytes) row → ⊥
ReadsLine version at bytes (Some first) =
    Spells version at (take_through 10 bytes) first.0 × (first.1.now ≡ drop_through 10 bytes)
