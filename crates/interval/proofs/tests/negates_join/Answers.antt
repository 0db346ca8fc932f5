use Rattle.std.proofs.Common.{sym, ◌∙◌}
use Rattle.interval.proofs.tests.negates_join.Goals as goal

pub returns : goal.returns
returns c =
    c.same.ensures.values.1 (λ valuation. c.in_ok-negated.ensures valuation ∙ sym (c.in_ok-met.ensures valuation))
