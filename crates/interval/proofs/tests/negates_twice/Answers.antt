use Rattle.std.proofs.Common.{ap, ◌∙◌}
use Rattle.points.specs.Values.{negation}
use Rattle.interval.proofs.tests.negates_twice.Goals as goal

pub returns : goal.returns
returns c =
    c.same-2.ensures.values.1 (λ valuation. c.in_ok-neg-2.ensures valuation ∙ ap negation (c.in_ok-neg.ensures valuation))
