-- Valuations at the ends that conjunctions ask for.
use Rattle.std.specs.Prelude.{◌≡◌, List, [], ◌∷◌}
use Rattle.std.specs.List.{All}
use Rattle.points.specs.Values.{Valuation, end_value, with_value}
use Rattle.interval.specs.declared.literals.Literal.{Literal}
use Rattle.interval.specs.Forms.{form_value}
use Rattle.faces.specs.declared.equations.Equation.{Equation}

-- the valuation with each name of a conjunction at its end
abbrev pub with_ends : List Equation → Valuation → Valuation
with_ends [] v = v
with_ends (e ∷ rest) v = with_value e.name (end_value e.end) (with_ends rest v)

-- two forms have one value wherever names are at the ends that a conjunction asks for
abbrev pub SameWith : List Equation → List (List Literal) → List (List Literal) → Type 0
SameWith conj left right =
    (v : Valuation) → form_value left (with_ends conj v) ≡ form_value right (with_ends conj v)

-- and so for each conjunction of a face
abbrev pub SameWithin : List (List Equation) → List (List Literal) → List (List Literal) → Type 0
SameWithin face left right = All (λ conj. SameWith conj left right) face
