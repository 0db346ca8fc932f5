use Rattle.std.proofs.Common.{take}
use Rattle.faces.proofs.Formulas.{AreOneSoFar}
use Rattle.faces.proofs.faces.Face.where_one.Given as goal

abbrev pub invariant-loop-product : goal.invariant-loop-product
invariant-loop-product l = AreOneSoFar l.conjs.items (take l.product-index l.product-items)
