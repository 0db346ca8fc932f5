use Rattle.std.proofs.Common.{take}
use Rattle.points.specs.Points.{with_end}
use Rattle.faces.proofs.Moved.{IsMoved}
use Rattle.faces.proofs.faces.Face.restrict.Given as goal

abbrev pub invariant-loop-conj : goal.invariant-loop-conj
invariant-loop-conj l = IsMoved (with_end l.name l.end) l.name l.conjs.items (take l.conj-index l.conj-items)
