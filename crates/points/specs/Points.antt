-- Points of a cube, and the valuations that lie over them.
use Rattle.std.specs.Prelude.{◌≡◌, ℕ, zero, suc, Bool, true, false, List}
use Rattle.std.specs.Prelude.{[], ◌∷◌, map, slice_index_or, slice_set}
use Rattle.points.specs.Values.{Value, zero_value, one_value, free_value, Valuation, value_at}

-- what a point makes of a name
pub data Coordinate : Type 0 where
  AtZero : Coordinate
  AtOne : Coordinate
  Free : Coordinate

-- the coordinates of the names 0, 1 and so on; a name past the end of the list is free
abbrev pub Point : Type 0
Point = List Coordinate

abbrev pub coordinate_at : Point → ℕ → Coordinate
coordinate_at point name = slice_index_or point name Free

-- the point with one name made free
abbrev pub with_free : ℕ → Point → Point
with_free name point = slice_set point name Free

-- an end of the interval: 1 for `true`, 0 for `false`
abbrev pub end_coordinate : Bool → Coordinate
end_coordinate true = AtOne
end_coordinate false = AtZero

-- the point with one name at an end
abbrev pub with_end : ℕ → Bool → Point → Point
with_end zero end [] = end_coordinate end ∷ []
with_end zero end (c ∷ rest) = end_coordinate end ∷ rest
with_end (suc name) end [] = Free ∷ with_end name end []
with_end (suc name) end (c ∷ rest) = c ∷ with_end name end rest

abbrev pub coordinate_value : Coordinate → Value
coordinate_value AtZero = zero_value
coordinate_value AtOne = one_value
coordinate_value Free = free_value

-- the valuation that a point is
abbrev pub valuation_of : Point → Valuation
valuation_of point = map coordinate_value point

-- an end has its own value, and a free name any
abbrev pub IsOver : Coordinate → Value → Type 0
IsOver AtZero v = v ≡ zero_value
IsOver AtOne v = v ≡ one_value
IsOver Free v = Unit {0}

-- the valuations under which formulas agree that are equal at the point
abbrev pub LiesOver : Point → Valuation → Type 0
LiesOver point valuation = (name : ℕ) → IsOver (coordinate_at point name) (value_at valuation name)
