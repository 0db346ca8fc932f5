-- The invariant of a region, and what a search in it finds.
use Rattle.std.specs.Prelude.{◌≡◌, ℕ, ◌≤◌, List, [], length, Some, slice_get, slice_index_or}
use Rattle.std.specs.List.{Contains}
use Rattle.region.specs.Hashes.{hash_of}
use Rattle.region.specs.Tables.{IsTable, IsFirstFree, most_rows}
use Rattle.region.specs.Held.{AreDistinct}
use Rattle.region.specs.declared.interning.Found.{Found}
use Rattle.region.specs.declared.interning.Found.TheVariants.{Row, Free}

-- the hash of each row
abbrev pub hashes : List (List ℕ) → ℕ → ℕ
hashes rows id = hash_of (slice_index_or rows id [])

-- no row stands twice, and the table is that of the rows and has room for them
pub record AreInterned (rows : List (List ℕ)) (marks ids : List ℕ) : Type 0 where
  pub distinct : AreDistinct rows
  pub few : length rows ≤ most_rows (length marks)
  pub table : IsTable (hashes rows) marks ids (length rows)

-- the row, or the slot for it where it is not there
abbrev pub IsFound : List (List ℕ) → List ℕ → List ℕ → Found → Type 0
IsFound rows marks row (Row id) = slice_get rows id ≡ Some row
IsFound rows marks row (Free slot) = IsFirstFree marks (hash_of row) slot × (Contains rows row → ⊥)
