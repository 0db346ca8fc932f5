use Rattle.std.proofs.Common.{◌≡◌, ◌≤◌, ◌+◌, ◌*◌, length, drop}
use Rattle.trees.specs.Things.{Kept, meanings}
use Rattle.rules.specs.Run.{run, rows_in, left, rank_for, rank_in}
use Rattle.rules.proofs.machine.+run.Given as goal

-- the instructions from `at` on have been followed
abbrev pub invariant-row_of-loop-at : goal.invariant-row_of-loop-at
invariant-row_of-loop-at g l =
    (l.at ≤ length l.place)
    × (length l.stack ≡ left (drop l.at l.place))
    × (g.M.Maker.spare l.fn.maker ≤ g.M.Maker.spare l.maker + rows_in (drop l.at l.place))
    × Kept (g.M.Rows.means l.fn.maker) (g.M.Rows.means l.maker)
    × (meanings (g.M.Rows.means l.maker) l.stack ≡ run (drop l.at l.place) (meanings (g.M.Rows.means l.fn.maker) l.parts))

abbrev pub decreases-row_of-loop-at : goal.decreases-row_of-loop-at
decreases-row_of-loop-at g l = l.at

-- a program calls derived trees of lower ranks

abbrev pub decreases-follow : goal.decreases-follow
decreases-follow g l = 2 * rank_for l.instruction

abbrev pub decreases-row_of : goal.decreases-row_of
decreases-row_of g l = 2 * rank_in l.place.now + 1
