use Rattle.std.proofs.Common.{◌≡◌, take, map}
use Rattle.normal_formulas.specs.Atoms.{lists_of}
use Rattle.normal_parts.specs.Parts.{all_written}
use Rattle.normal_parts.proofs.written.are_all_written.Given as goal

abbrev pub invariant-loop-i : goal.invariant-loop-i
invariant-loop-i l = take l.i (lists_of l.written) ≡ take l.i (map (all_written l.fn.raised) (lists_of l.lists))
