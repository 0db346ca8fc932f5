use Rattle.std.proofs.Common.{ap₂, ◌∙◌}
use Rattle.points.specs.Values.{meet}
use Rattle.interval.proofs.tests.met_negations.Goals as goal

pub returns : goal.returns
returns c = λ valuation.
    c.in_ok-meet.ensures valuation ∙ ap₂ meet (c.in_ok-neg.ensures valuation) (c.in_ok-neg-2.ensures valuation)
