use Rattle.std.proofs.Common.{◌≡◌, ℕ, ◌<◌, ◌≤◌, ◌+◌, [], length, take, get_or}
use Rattle.trees.specs.Things.{Kept, meanings}
use Rattle.rules.specs.Run.{lists_of, thing_of, rows_of_all}
use Rattle.rules.proofs.machine.rows_of.Given as goal

-- the places before `at` have their rows
abbrev pub invariant-loop-at : goal.invariant-loop-at
invariant-loop-at g l =
    (length l.rows ≡ length l.places)
    × (g.M.Maker.spare l.fn.maker ≤ g.M.Maker.spare l.maker + rows_of_all (take l.at (lists_of l.places)))
    × Kept (g.M.Rows.means l.fn.maker) (g.M.Rows.means l.maker)
    × ((k : ℕ) → k < l.at → g.M.Rows.means l.maker (get_or l.rows k 0) ≡ thing_of (meanings (g.M.Rows.means l.fn.maker) l.parts) (get_or (lists_of l.places) k []))
