-- Lists of products with the same truth.
use Rattle.std.specs.Prelude.{List, All, Contains}
use Rattle.std.specs.declared.cmp.Ordering.{Ordering}
use Rattle.std.specs.List.{IsDistinct}
use Rattle.std.specs.List.Sorted.{IsStrictlySortedBy}
use Rattle.std.specs.Ordering.{eq_by_cmp}
use Rattle.std.specs.Cmp.Lexicographic.{slice_cmp}
use Rattle.antichains.specs.Antichains.{IsWithin, IsAntichain}

-- one list has some of another's products, and each of the other's has one of them within it
pub record Covers {X : Type 0} (kept all : List (List X)) : Type 0 where
  pub among : (xs : List X) → Contains kept xs → Contains all xs
  pub below : (xs : List X) → Contains all xs → (ys : List X) × Contains kept ys × IsWithin ys xs

-- what one pass of absorption leaves
pub record IsReduced {X : Type 0} (cmp : X → X → Ordering) (kept all : List (List X)) : Type 0 where
  pub covers : Covers kept all
  pub sorted : All (IsStrictlySortedBy cmp) kept
  pub irredundant : IsAntichain kept
  pub distinct : IsDistinct (eq_by_cmp (slice_cmp cmp)) kept
