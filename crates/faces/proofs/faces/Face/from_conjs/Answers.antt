use Rattle.faces.specs.Equations.{equation_truth}
use Rattle.faces.proofs.Joined.{consistent_among}
use Rattle.faces.proofs.faces.Face.from_conjs.Goals as goal

pub invariant_of-result : goal.invariant_of-result
invariant_of-result c =
    consistent_among c.in_ok-from_products.field-0 c.args.conjs.items c.in_ok-from_products.ensures.among c.requires

pub returns-clause-truth : goal.returns-clause-truth
returns-clause-truth c x = c.in_ok-from_products.ensures.truth (λ e. equation_truth e x)
