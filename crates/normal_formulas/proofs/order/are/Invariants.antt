use Rattle.std.proofs.Common.{◌≡◌, take}
use Rattle.normal_formulas.specs.Atoms.{lists_of}
use Rattle.normal_formulas.proofs.order.are.Given as goal

abbrev pub invariant-loop-i : goal.invariant-loop-i
invariant-loop-i l = take l.i l.products ≡ take l.i (lists_of l.lists)
