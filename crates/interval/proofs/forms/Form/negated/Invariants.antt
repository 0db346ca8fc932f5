use Rattle.std.proofs.Common.{◌≡◌, take}
use Rattle.points.specs.Values.{Valuation, negation}
use Rattle.interval.specs.Forms.{product_value, form_value}
use Rattle.interval.proofs.forms.Form.negated.Given as goal

abbrev pub invariant-loop-literal : goal.invariant-loop-literal
invariant-loop-literal l =
    (valuation : Valuation) → form_value l.products.items valuation ≡ negation (product_value (take l.literal-index l.literal-items) valuation)
