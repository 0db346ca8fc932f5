use Rattle.std.proofs.Common.{take}
use Rattle.faces.proofs.Formulas.{IsOneSoFar}
use Rattle.faces.proofs.faces.where_all_are_one.Given as goal

abbrev pub invariant-loop-literal : goal.invariant-loop-literal
invariant-loop-literal l = IsOneSoFar l.conj (take l.literal-index l.literal-items)
