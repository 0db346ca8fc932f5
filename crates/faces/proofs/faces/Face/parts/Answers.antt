use Rattle.faces.proofs.OwnPoints.{all_rising, irredundant_at_points}
use Rattle.faces.proofs.faces.Face.parts.Goals as goal

pub returns-clause-names : goal.returns-clause-names
returns-clause-names c =
    rw (← c.self.view_is) (all_rising c.self.inside.conjs c.products.ensures.normal.elements_sorted c.self.invariant)

pub returns-clause-irredundant : goal.returns-clause-irredundant
returns-clause-irredundant c =
    rw (← c.self.view_is) (irredundant_at_points c.self.inside.conjs c.products.ensures.normal c.self.invariant)
