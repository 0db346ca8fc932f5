use Rattle.std.proofs.Common.{◌≡◌, take}
use Rattle.points.specs.Values.{Valuation, negation}
use Rattle.interval.specs.Forms.{form_value}
use Rattle.interval.proofs.forms.Form.neg.Given as goal

abbrev pub invariant-loop-product : goal.invariant-loop-product
invariant-loop-product l =
    (valuation : Valuation) → form_value l.form valuation ≡ negation (form_value (take l.product-index l.product-items) valuation)
