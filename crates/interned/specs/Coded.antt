-- What rows of words mean together.
use Rattle.std.specs.Prelude.{◌≡◌, ◌≤◌, ℕ, List, take, Option, Some, IsSome, IsTrue, unwrap_or}
use Rattle.std.specs.Prelude.{slice_get}
use Rattle.trees.specs.Trees.{Subst, count_of}
use Rattle.trees.specs.Judgements.{Nil}
use Rattle.trees.specs.Things.{Thing, ASubst, AContext}
use Rattle.rows.specs.Tables.{built}
use Rattle.rows.specs.Counts.{most_counted, is_count_held}
use Rattle.interned.specs.Coding.{thing_coded, pushed_coded, shift_coded}

-- what words mean after rows that mean these things, with some thing where they mean none
abbrev pub thing_of : List Thing → List ℕ → Thing
thing_of known words = unwrap_or (thing_coded (slice_get known) words) (AContext Nil)

abbrev pub things_coded : List (List ℕ) → List Thing
things_coded rows = built thing_of rows

-- the size of a substitution at this row
pub record IsSizeCoded (row : ℕ) (d : Subst) (pushed shift : ℕ) : Type 0 where
  pub few : pushed ≤ most_counted
  pub count : IsTrue (is_count_held row (count_of d.pushed) pushed)
  pub shift_is : d.shift ≡ shift

-- where the words mean a substitution, they say its size
abbrev pub IsSized : ℕ → Option Thing → List ℕ → Type 0
IsSized row x words =
    (d : Subst) → x ≡ Some (ASubst d) → IsSizeCoded row d (pushed_coded words) (shift_coded words)

-- each row means something, and sizes are said right
pub record AreCoded (rows : List (List ℕ)) : Type 0 where
  pub mean : (k : ℕ) (words : List ℕ) → slice_get rows k ≡ Some words
      → IsSome (thing_coded (slice_get (take k (things_coded rows))) words)
  pub sized : (k : ℕ) (words : List ℕ) → slice_get rows k ≡ Some words
      → IsSized k (slice_get (things_coded rows) k) words

-- Words of a row that means a thing. Rows before it that mean things are enough for that.
pub record IsRowAt (xs : List Thing) (k : ℕ) (words : List ℕ) : Type 0 where
  pub thing : Thing
  pub is : slice_get xs k ≡ Some thing
  pub means : thing_coded (slice_get xs) words ≡ Some thing
  pub before : thing_coded (slice_get (take k xs)) words ≡ Some thing
  pub sized : IsSized k (Some thing) words
