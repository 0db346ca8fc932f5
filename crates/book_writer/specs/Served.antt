-- The rows of a file that serve some nodes.
use Rattle.std.specs.Prelude.{◌≡◌, ◌<◌, ◌⊎◌, ℕ, List, length, Bool, true, Some, slice_get}
use Rattle.std.specs.List.{All, Contains}
use Rattle.deriv_file.specs.declared.row.Row.{Row}
use Rattle.book_writer.specs.Names.{names_in}

-- row k is marked
abbrev pub IsMarked : List Bool → ℕ → Type 0
IsMarked marks k = slice_get marks k ≡ Some true

-- marked are the rows that were, and these
pub record Marks (old : List Bool) (rows : List ℕ) (new : List Bool) : Type 0 where
  pub count : length new ≡ length old
  pub kept : (k : ℕ) → IsMarked old k → IsMarked new k
  pub all : All (IsMarked new) rows
  pub only : (k : ℕ) → IsMarked new k → IsMarked old k ⊎ Contains rows k

-- a row is one of these, or a row names it that serves them
pub data Reached (rows : List Row) (roots : List ℕ) : ℕ → Type 0 where
  asked : {k : ℕ} → Contains roots k → Reached rows roots k
  named : {k : ℕ} (j : ℕ) (r : Row) → Reached rows roots j → slice_get rows j ≡ Some r
      → Contains (names_in r) k → Reached rows roots k

-- marked are the header and the rows that serve these
pub record AreServed (rows : List Row) (roots : List ℕ) (marks : List Bool) : Type 0 where
  pub count : length marks ≡ length rows
  pub header : IsMarked marks 0
  pub roots_marked : All (IsMarked marks) roots
  pub closed : (k : ℕ) (r : Row) → slice_get rows k ≡ Some r → IsMarked marks k
      → All (IsMarked marks) (names_in r)
  pub reached : (k : ℕ) → 0 < k → IsMarked marks k → Reached rows roots k
