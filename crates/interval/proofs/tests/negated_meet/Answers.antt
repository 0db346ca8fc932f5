use Rattle.std.proofs.Common.{ap, ◌∙◌}
use Rattle.points.specs.Values.{negation}
use Rattle.interval.proofs.tests.negated_meet.Goals as goal

pub returns : goal.returns
returns c = λ valuation. c.in_ok-neg.ensures valuation ∙ ap negation (c.in_ok-meet.ensures valuation)
