use Rattle.std.proofs.Common.{◌≡◌, ◌-◌, length, take}
use Rattle.std.specs.Prelude.{slice_get}
use Rattle.std.specs.List.{All}
use Rattle.rows.specs.Shown.{things}
use Rattle.rules.specs.Claims.{sides_in}
use Rattle.conditions.specs.Sides.{SideHolds}
use Rattle.side_conditions.specs.Kept.{KeepsBelow}
use Rattle.replay.specs.Premises.{rule_at_rows}
use Rattle.replay.specs.Sides.{sides_of}
use Rattle.replay.proofs.node.sides_hold.Given as goal

-- the side conditions so far hold, and the store is as before
abbrev pub invariant-loop-test : goal.invariant-loop-test
invariant-loop-test l =
    (things l.store ≡ things l.fn.store)
    × KeepsBelow (length (things l.fn.store)) (slice_get (things l.fn.store)) l.sides
    × All SideHolds (take l.at (sides_of (rule_at_rows (things l.fn.store) l.rule l.rows)))

abbrev pub decreases-loop-test : goal.decreases-loop-test
decreases-loop-test l = sides_in (rule_at_rows (things l.fn.store) l.rule l.rows) - l.at
