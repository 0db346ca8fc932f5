use Rattle.interval.proofs.Truths.{value_from_truth}
use Rattle.interval.proofs.Realized.{truth_from_values}
use Rattle.interval.proofs.forms.Form.same.Goals as goal

pub returns-clause-values : goal.returns-clause-values
returns-clause-values c =
    rw (← c.self.view_is, ← c.other.view_is) (
      λ h valuation. value_from_truth c.self.inside.sum c.other.inside.sum valuation (c.same.ensures.truth.0 h),
      λ h. c.same.ensures.truth.1 (truth_from_values c.self.inside.sum c.other.inside.sum h),
    )
