use Rattle.std.proofs.Common.{◌-◌, take}
use Rattle.std.specs.List.{All}
use Rattle.conditions.specs.Sides.{SideHolds}
use Rattle.rules.specs.Claims.{sides_in}
use Rattle.book.specs.Shown.{AddsRows}
use Rattle.book.specs.Fits.{rule_in, sides_of}
use Rattle.book.proofs.kernel.Book.failing_side.Given as goal

-- the side conditions so far hold
abbrev pub invariant-loop-test : goal.invariant-loop-test
invariant-loop-test l =
    AddsRows l.fn.self l.self
    × All SideHolds (take l.at (sides_of (rule_in l.fn.self l.step)))

abbrev pub decreases-loop-test : goal.decreases-loop-test
decreases-loop-test l = sides_in (rule_in l.fn.self l.step) - l.at
