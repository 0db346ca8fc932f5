use Rattle.std.proofs.Common.{◌≡◌, ◌-◌, ◌≤◌, length, drop}
use Rattle.scopes.proofs.names.Names.cut.Given as goal

abbrev pub invariant-loop-self : goal.invariant-loop-self
invariant-loop-self l = record {
  cut : l.self ≡ drop (length l.fn.self - length l.self) l.fn.self;
  above : length l.fn.self - length l.self ≤ length l.fn.self - l.mark;
}

abbrev pub decreases-loop-self : goal.decreases-loop-self
decreases-loop-self l = length l.self
