use Rattle.std.proofs.Common.{[], ◌∷◌, take}
use Rattle.faces.proofs.Meeting.{AreEnough}
use Rattle.faces.proofs.faces.Face.covers_meet.Given as goal

abbrev pub invariant-loop-first : goal.invariant-loop-first
invariant-loop-first l = AreEnough l.self (take l.first-index l.first-items) l.right []

abbrev pub invariant-loop-second : goal.invariant-loop-second
invariant-loop-second l = record {
  rows : AreEnough l.self (take l.first-index l.first-items) l.right [];
  row : AreEnough l.self (l.first ∷ []) (take l.second-index l.second-items) [];
}
