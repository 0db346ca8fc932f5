use Rattle.std.proofs.Common.{◌≡◌, take}
use Rattle.normal_parts.specs.Parts.{all_written}
use Rattle.normal_parts.proofs.written.are_written.Given as goal

abbrev pub invariant-loop-i : goal.invariant-loop-i
invariant-loop-i l = take l.i l.written ≡ take l.i (all_written l.fn.raised l.atoms)
