-- What contracts see of a region.
use Rattle.std.specs.Prelude.{◌≡◌, ℕ, ◌+◌, ◌<◌, ◌≤◌, ◌⊎◌, List, [], ◌∷◌, ◌++◌, length, slice_get}
use Rattle.std.specs.List.{Contains}

-- the rows, and how many more rows and words can come without memory
pub record Held : Type 0 where
  pub rows : List (List ℕ)
  pub spare_rows : ℕ
  pub spare_words : ℕ

-- equal rows have equal numbers
abbrev pub AreDistinct : List (List ℕ) → Type 0
AreDistinct rows =
    (i j : ℕ) → i < length rows → j < length rows → slice_get rows i ≡ slice_get rows j → i ≡ j

-- the spare is not less than before
pub record KeepsSpare (old new : Held) : Type 0 where
  pub in_rows : old.spare_rows ≤ new.spare_rows
  pub in_words : old.spare_words ≤ new.spare_words

-- the spare falls by one row of so many words at most
pub record SpendsRow (old new : Held) (words : ℕ) : Type 0 where
  pub in_rows : old.spare_rows ≤ new.spare_rows + 1
  pub in_words : old.spare_words ≤ new.spare_words + words

-- the spare covers so much
pub record Covers (held : Held) (rows words : ℕ) : Type 0 where
  pub in_rows : rows ≤ held.spare_rows
  pub in_words : words ≤ held.spare_words

-- the rows after one was interned: as before where it stood, and else with it at their end
abbrev pub IsInterned : List (List ℕ) → List ℕ → List (List ℕ) → Type 0
IsInterned old row new =
    (Contains old row × (new ≡ old)) ⊎ ((Contains old row → ⊥) × (new ≡ old ++ row ∷ []))
