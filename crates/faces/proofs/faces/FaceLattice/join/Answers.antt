use Rattle.faces.specs.Equations.{equation_truth}
use Rattle.faces.proofs.Joined.{consistent_both}
use Rattle.faces.proofs.faces.FaceLattice.join.Goals as goal

pub invariant_of-result : goal.invariant_of-result
invariant_of-result c =
    consistent_both c.in_ok-join.field-0 c.self.inside.conjs c.other.inside.conjs c.in_ok-join.ensures.among c.self.invariant c.other.invariant

pub returns : goal.returns
returns c x = rw (← c.self.view_is, ← c.other.view_is) (c.in_ok-join.ensures.truth (λ e. equation_truth e x))
