use Rattle.std.proofs.Common.{length, map, ◌-◌}
use Rattle.module_texts.specs.Texts.{text_of}
use Rattle.session.proofs.PlaceLaws.{Looks}
use Rattle.session.proofs.places.holder.Given as goal

abbrev pub invariant-loop-left : goal.invariant-loop-left
invariant-loop-left l = Looks (map text_of l.texts) l.place l.number l.left

abbrev pub decreases-loop-left : goal.decreases-loop-left
decreases-loop-left l = length l.texts - l.number
