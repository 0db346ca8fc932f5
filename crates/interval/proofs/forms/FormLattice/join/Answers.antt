use Rattle.interval.proofs.Truths.{join_value}
use Rattle.interval.proofs.forms.FormLattice.join.Goals as goal

pub returns : goal.returns
returns c valuation =
    rw (← c.self.view_is, ← c.other.view_is)
    (join_value c.in_ok-join.field-0 c.self.inside.sum c.other.inside.sum valuation c.in_ok-join.ensures.truth)
