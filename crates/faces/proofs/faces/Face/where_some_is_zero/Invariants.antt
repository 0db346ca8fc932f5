use Rattle.std.proofs.Common.{take}
use Rattle.faces.proofs.Formulas.{IsZeroSoFar}
use Rattle.faces.proofs.faces.Face.where_some_is_zero.Given as goal

abbrev pub invariant-loop-literal : goal.invariant-loop-literal
invariant-loop-literal l = IsZeroSoFar l.conjs.items (take l.literal-index l.literal-items)
