use Rattle.std.proofs.Common.{◌≡◌, ◌∷◌, take}
use Rattle.points.specs.Values.{Valuation}
use Rattle.interval.specs.Forms.{form_value}
use Rattle.side_conditions.specs.Restricted.{with_ends}
use Rattle.side_conditions.proofs.restriction.restricted.Given as goal

-- the names of the equations so far are at their ends
abbrev pub invariant-loop-equation : goal.invariant-loop-equation
invariant-loop-equation l = (v : Valuation) → form_value l.new v ≡ form_value l.form (with_ends (l.fn.first ∷ take l.equation-index l.rest) v)
