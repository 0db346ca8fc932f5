use Rattle.std.proofs.Common.{◌≡◌, ◌≤◌, ◌<◌, ◌+◌, length, false}
use Rattle.std.specs.List.{All}
use Rattle.circuits.specs.Circuits.{Labels, Obeys, IsIn}
use Rattle.circuits.specs.Branches.{Fits}
use Rattle.circuits.proofs.branch.Branch.review.Given as goal

abbrev pub invariant-loop-at : goal.invariant-loop-at
invariant-loop-at l = record {
  known : l.self.known.items ≡ l.fn.self.known.items;
  same : l.self.unsettled.items ≡ l.fn.self.unsettled.items;
  wanted : All (IsIn l.gates) l.self.wanted.items;
  unsettled : All (λ g. g < length l.gates) l.unsettled.items;
  fits : (w : Labels) → Obeys l.gates w → Fits w l.fn.self → Fits w l.self × All (λ g. w g ≡ false) l.unsettled.items;
  less : length l.self.wanted.items + length l.unsettled.items ≤ length l.fn.self.wanted.items + l.at;
}
