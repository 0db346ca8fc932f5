use Rattle.std.proofs.Common.{take}
use Rattle.std.specs.List.Sorted.{IsStrictlySortedBy}
use Rattle.normal_formulas.specs.Atoms.{level_cmp}
use Rattle.normal_parts.proofs.covers.rises.Given as goal

abbrev pub invariant-loop-i : goal.invariant-loop-i
invariant-loop-i l = IsStrictlySortedBy level_cmp (take l.i l.atoms)
