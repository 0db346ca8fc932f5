use Rattle.std.proofs.Common.{ℕ, suc, length, take, drop}
use Rattle.std.specs.List.{All}
use Rattle.closures.specs.Shown.{lists}
use Rattle.closures.specs.Closures.{Stands}
use Rattle.compare.specs.Pairs.{IsPair}
use Rattle.compare.specs.Kids.{kids_meant, KidsOpen}
use Rattle.compare.proofs.walk.add_kids.Given as goal

-- the kids so far are compared by further pairs, which stand
abbrev pub invariant-loop-at : goal.invariant-loop-at
invariant-loop-at g l =
    let f = g.R.Rows.means l.rows in
    let known = lists l.environments in
    record {
      opened : KidsOpen f known (take l.at (kids_meant f known l.op l.left.rows.now l.left.environment)) (take l.at (kids_meant f known l.op l.right.rows.now l.right.environment)) l.fn.pairs.keys l.pairs.keys;
      stand : (n : ℕ) → Stands f known n l.left.environment → Stands f known n l.right.environment → All (IsPair f known (suc n)) (drop (length l.fn.pairs.keys) l.pairs.keys);
    }
