use Rattle.std.proofs.Common.{ap₂, ◌∙◌}
use Rattle.points.specs.Values.{join}
use Rattle.interval.proofs.tests.joined_negations.Goals as goal

pub returns : goal.returns
returns c = λ valuation.
    c.in_ok-join.ensures valuation ∙ ap₂ join (c.in_ok-neg.ensures valuation) (c.in_ok-neg-2.ensures valuation)
