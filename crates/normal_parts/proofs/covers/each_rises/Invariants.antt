use Rattle.std.proofs.Common.{take}
use Rattle.std.specs.List.{All}
use Rattle.normal_formulas.specs.Atoms.{lists_of}
use Rattle.normal_parts.specs.Parts.{IsRising}
use Rattle.normal_parts.proofs.covers.each_rises.Given as goal

abbrev pub invariant-loop-conjunction : goal.invariant-loop-conjunction
invariant-loop-conjunction l = All IsRising (take l.conjunction-index (lists_of l.conjunctions))
