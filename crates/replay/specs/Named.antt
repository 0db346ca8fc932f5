-- The things that numbers of a file name.
use Rattle.std.specs.Prelude.{◌≡◌, ℕ, List, Option, Some, map, slice_get, option_map}
use Rattle.trees.specs.declared.kind.PartKind.{PartKind}
use Rattle.trees.specs.Things.{Thing, meanings, kind_of}
use Rattle.derivation.specs.Meanings.{thing_at, things_at}
use Rattle.replay.specs.declared.filed.Filed.{Filed}
use Rattle.replay.specs.Filed.{file_meanings}

abbrev pub IsOf : PartKind → Option Thing → Type 0
IsOf kind x = option_map kind_of x ≡ Some kind

-- the number names a thing of this kind, which is that of this row of the store
pub record NamesOne (xs : List Thing) (rows : List Filed) (number : ℕ) (kind : PartKind) (row : ℕ) :
    Type 0 where
  pub same : thing_at (file_meanings xs rows) number ≡ slice_get xs row
  pub kind_is : IsOf kind (slice_get xs row)

-- the same of two
abbrev pub NamesTwo : List Thing → List Filed → (ℕ × PartKind) → (ℕ × PartKind) → (ℕ × ℕ) → Type 0
NamesTwo xs rows first second found =
    NamesOne xs rows first.0 first.1 found.0 × NamesOne xs rows second.0 second.1 found.1

abbrev pub NamesNoTwo : List Thing → List Filed → (ℕ × PartKind) → (ℕ × PartKind) → Type 0
NamesNoTwo xs rows first second = let f = thing_at (file_meanings xs rows) in
    IsOf first.1 (f first.0) → IsOf second.1 (f second.0) → ⊥

-- the numbers name things of these kinds, which are those of these rows of the store
pub record Names (xs : List Thing) (rows : List Filed) (numbers : List ℕ)
    (kinds : List PartKind) (found : List ℕ) : Type 0 where
  pub named : List Thing
  pub numbers_mean : things_at (file_meanings xs rows) numbers ≡ Some named
  pub rows_mean : meanings (slice_get xs) found ≡ Some named
  pub kinds_are : map kind_of named ≡ kinds

-- the numbers name no things of these kinds
abbrev pub NamesNone : List Thing → List Filed → List ℕ → List PartKind → Type 0
NamesNone xs rows numbers kinds =
    (named : List Thing) → things_at (file_meanings xs rows) numbers ≡ Some named →
    map kind_of named ≡ kinds → ⊥
