use Rattle.std.proofs.Common.{take}
use Rattle.side_conditions.specs.Contexts.{IsMeetOf}
use Rattle.side_conditions.proofs.contexts.meet_of.Given as goal

abbrev pub invariant-loop-face : goal.invariant-loop-face
invariant-loop-face l = IsMeetOf (take l.face-index l.faces) l.met
