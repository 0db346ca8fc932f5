use Rattle.std.proofs.Common.{take}
use Rattle.side_conditions.specs.Restricted.{SameWithin}
use Rattle.side_conditions.proofs.restriction.same_under.Given as goal

abbrev pub invariant-loop-conj : goal.invariant-loop-conj
invariant-loop-conj l = SameWithin (take l.conj-index l.conj-items) l.left l.right
