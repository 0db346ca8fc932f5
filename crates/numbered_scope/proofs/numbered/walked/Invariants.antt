use Rattle.std.proofs.Common.{◌≡◌, take}
use Rattle.numbered_scope.specs.Newest.{newest}
use Rattle.numbered_scope.proofs.numbered.walked.Given as goal

abbrev pub invariant-loop-item : goal.invariant-loop-item
invariant-loop-item g l = l.found ≡ newest (take l.item-index l.items) l.number
