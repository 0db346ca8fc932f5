use Rattle.interval.proofs.Truths.{meet_value}
use Rattle.interval.proofs.forms.FormLattice.meet.Goals as goal

pub returns : goal.returns
returns c valuation =
    rw (← c.self.view_is, ← c.other.view_is)
    (meet_value c.in_ok-meet.field-0 c.self.inside.sum c.other.inside.sum valuation c.in_ok-meet.ensures)
