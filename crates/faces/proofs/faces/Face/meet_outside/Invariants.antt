use Rattle.std.proofs.Common.{[], ◌∷◌, take}
use Rattle.faces.proofs.Meeting.{AreMerges, AreEnough}
use Rattle.faces.proofs.faces.Face.meet_outside.Given as goal

abbrev pub invariant-loop-left : goal.invariant-loop-left
invariant-loop-left l = record {
  merges : AreMerges l.excluded l.self l.other l.conjs.items;
  rows : AreEnough l.excluded (take l.left-index l.left-items) l.other l.conjs.items;
}

abbrev pub invariant-loop-right : goal.invariant-loop-right
invariant-loop-right l = record {
  merges : AreMerges l.excluded l.self l.other l.conjs.items;
  rows : AreEnough l.excluded (take l.left-index l.left-items) l.other l.conjs.items;
  row : AreEnough l.excluded (l.left ∷ []) (take l.right-index l.right-items) l.conjs.items;
}
