-- Sums of products as lists of lists, whatever the elements are.
use Rattle.std.specs.Prelude.{◌≡◌, ◌≢◌, ◌⊎◌, Bool, List, All, Contains}
use Rattle.std.specs.declared.cmp.Ordering.{Ordering}
use Rattle.std.specs.List.{list_any, list_all}
use Rattle.std.specs.List.Sorted.{IsStrictlySortedBy}
use Rattle.std.specs.Cmp.Lexicographic.{slice_cmp}

-- each element of one list is in the other
pub record IsWithin {X : Type 0} (xs ys : List X) : Type 0 where
  pub each : (x : X) → Contains xs x → Contains ys x

-- a list has the elements of two others, and only those
pub record IsUnion {X : Type 0} (xs ys union : List X) : Type 0 where
  pub from : (x : X) → Contains union x → Contains xs x ⊎ Contains ys x
  pub left : IsWithin xs union
  pub right : IsWithin ys union

-- a list has the elements of another but one
pub record IsWithout {X : Type 0} (xs : List X) (x : X) (rest : List X) : Type 0 where
  pub from : IsWithin rest xs
  pub kept : (y : X) → Contains xs y → y ≢ x → Contains rest y
  pub gone : Contains rest x → ⊥

-- no list is within another one
pub record IsAntichain {X : Type 0} (lists : List (List X)) : Type 0 where
  pub apart : (xs ys : List X) → Contains lists xs → Contains lists ys → IsWithin xs ys → xs ≡ ys

-- whether some list passes the test with each of its elements
abbrev pub some_all : {X : Type 0} → (X → Bool) → List (List X) → Bool
some_all test lists = list_any (list_all test) lists

-- two sums of products have one truth, whatever passes the test
abbrev pub HaveSameTruth : {X : Type 0} → List (List X) → List (List X) → Type 0
HaveSameTruth {X} left right = (test : X → Bool) → some_all test left ≡ some_all test right

-- products in normal form: each in order, in order themselves, and none within another
pub record IsNormal {X : Type 0} (cmp : X → X → Ordering) (products : List (List X)) : Type 0 where
  pub elements_sorted : All (IsStrictlySortedBy cmp) products
  pub products_sorted : IsStrictlySortedBy (slice_cmp cmp) products
  pub irredundant : IsAntichain products
