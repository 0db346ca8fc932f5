-- What a formula of the interval is worth.
use Rattle.std.specs.Prelude.{ℕ, zero, suc, Bool, true, false, ◌&&◌}
use Rattle.std.specs.Prelude.{◌||◌, List, [], ◌∷◌, slice_index_or}

-- whether a formula holds, and whether its negation does: neither tells of the other
pub record Value : Type 0 where
  pub holds : Bool
  pub fails : Bool

abbrev pub zero_value : Value
zero_value = record { holds = false; fails = true }

abbrev pub one_value : Value
one_value = record { holds = true; fails = false }

-- of a name of which nothing is told
abbrev pub free_value : Value
free_value = record { holds = false; fails = false }

abbrev pub negation : Value → Value
negation v = record { holds = v.fails; fails = v.holds }

abbrev pub meet : Value → Value → Value
meet v w = record { holds = v.holds && w.holds; fails = v.fails || w.fails }

abbrev pub join : Value → Value → Value
join v w = record { holds = v.holds || w.holds; fails = v.fails && w.fails }

-- an end of the interval: 1 for `true`, 0 for `false`
abbrev pub end_value : Bool → Value
end_value true = one_value
end_value false = zero_value

-- the values of the names 0, 1 and so on; a name past the end of the list is free
abbrev pub Valuation : Type 0
Valuation = List Value

abbrev pub value_at : Valuation → ℕ → Value
value_at valuation name = slice_index_or valuation name free_value

-- the valuation with another value for one name
abbrev pub with_value : ℕ → Value → Valuation → Valuation
with_value zero v [] = v ∷ []
with_value zero v (w ∷ rest) = v ∷ rest
with_value (suc name) v [] = free_value ∷ with_value name v []
with_value (suc name) v (w ∷ rest) = w ∷ with_value name v rest
