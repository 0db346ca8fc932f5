-- Names of the interval and their negations.
use Rattle.std.specs.Prelude.{Bool, true, false}
use Rattle.std.specs.declared.cmp.Ordering.{Ordering}
use Rattle.std.specs.Ordering.{nat_cmp, bool_cmp, then_cmp, on}
use Rattle.points.specs.Values.{Value, negation, Valuation, value_at}
use Rattle.interval.specs.declared.literals.Literal.{Literal}

-- literals go by name, a name before its negation
abbrev pub literal_cmp : Literal → Literal → Ordering
literal_cmp = then_cmp (on (λ l. l.name) nat_cmp) (on (λ l. l.negated) bool_cmp)

-- a value, or its negation
abbrev pub signed : Bool → Value → Value
signed false v = v
signed true v = negation v

abbrev pub literal_value : Literal → Valuation → Value
literal_value literal valuation = signed literal.negated (value_at valuation literal.name)
