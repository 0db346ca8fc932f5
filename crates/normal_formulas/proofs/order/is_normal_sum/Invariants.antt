use Rattle.std.proofs.Common.{take}
use Rattle.normal_formulas.specs.Atoms.{lists_of}
use Rattle.normal_formulas.proofs.OrderLaws.{AreProducts}
use Rattle.normal_formulas.proofs.order.is_normal_sum.Given as goal

abbrev pub invariant-loop-atoms : goal.invariant-loop-atoms
invariant-loop-atoms l = AreProducts l.products.items (take l.atoms-index (lists_of l.sum))
