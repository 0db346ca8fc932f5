use Rattle.interval.proofs.Truths.{value_from_truth}
use Rattle.interval.proofs.forms.Form.from_products.Goals as goal

pub returns-clause-value : goal.returns-clause-value
returns-clause-value c valuation =
    value_from_truth c.in_ok-from_products.field-0 c.args.products.items valuation c.in_ok-from_products.ensures.truth
