-- Equations of a name with an end of the interval.
use Rattle.std.specs.Prelude.{Bool, true, false, not}
use Rattle.std.specs.declared.cmp.Ordering.{Ordering}
use Rattle.std.specs.Ordering.{nat_cmp, bool_cmp, then_cmp, on}
use Rattle.points.specs.Values.{Value}
use Rattle.points.specs.Points.{Coordinate, AtZero, AtOne, Free, Point, coordinate_at}
use Rattle.faces.specs.declared.equations.Equation.{Equation}

-- equations of different names go by name
abbrev pub name_cmp : Equation → Equation → Ordering
name_cmp = on (λ e. e.name) nat_cmp

-- equations go by name, the end 0 before 1
abbrev pub equation_cmp : Equation → Equation → Ordering
equation_cmp = then_cmp name_cmp (on (λ e. e.end) bool_cmp)

-- the same name with the other end
abbrev pub opposite : Equation → Equation
opposite equation = record { name = equation.name; end = not equation.end }

-- whether a name is at an end: a free name is at neither
abbrev pub is_at : Coordinate → Bool → Bool
is_at AtZero end = not end
is_at AtOne end = end
is_at Free end = false

abbrev pub equation_truth : Equation → Point → Bool
equation_truth equation point = is_at (coordinate_at point equation.name) equation.end

-- whether a formula of this value is equal to an end: a value that neither holds nor fails is equal
-- to neither
abbrev pub equals_end : Value → Bool → Bool
equals_end v true = v.holds
equals_end v false = v.fails
