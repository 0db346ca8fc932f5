use Rattle.std.proofs.Common.{take}
use Rattle.points.specs.Points.{with_free}
use Rattle.faces.proofs.Moved.{IsMoved}
use Rattle.faces.proofs.faces.Face.forall.Given as goal

abbrev pub invariant-loop-conj : goal.invariant-loop-conj
invariant-loop-conj l = IsMoved (with_free l.name) l.name l.conjs.items (take l.conj-index l.conj-items)
