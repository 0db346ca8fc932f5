-- What forms are worth.
use Rattle.std.specs.Prelude.{◌≡◌, ◌≢◌, ℕ, List, [], ◌∷◌, All}
use Rattle.points.specs.Values.{Value, zero_value, one_value, meet, join, Valuation}
use Rattle.interval.specs.declared.literals.Literal.{Literal}
use Rattle.interval.specs.Literals.{literal_value}

-- the product of literals: of none it is 1
abbrev pub product_value : List Literal → Valuation → Value
product_value [] valuation = one_value
product_value (literal ∷ rest) valuation =
    meet (literal_value literal valuation) (product_value rest valuation)

-- the sum of products: of none it is 0
abbrev pub form_value : List (List Literal) → Valuation → Value
form_value [] valuation = zero_value
form_value (product ∷ rest) valuation =
    join (product_value product valuation) (form_value rest valuation)

-- the form has this value under each valuation
abbrev pub HasValue : (Valuation → Value) → List (List Literal) → Type 0
HasValue value form = (valuation : Valuation) → form_value form valuation ≡ value valuation

-- no literal is of this name
abbrev pub LacksName : ℕ → List (List Literal) → Type 0
LacksName name form = All (All (λ literal. literal.name ≢ name)) form
