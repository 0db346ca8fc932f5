use Rattle.std.proofs.Common.{take}
use Rattle.faces.proofs.Open.{IsOpen}
use Rattle.faces.proofs.faces.Face.holds_under.Given as goal

abbrev pub invariant-loop-face : goal.invariant-loop-face
invariant-loop-face l = IsOpen l.self l.open (take l.face-index l.others)
