use Rattle.std.proofs.Common.{◌≡◌, map, take}
use Rattle.trees.specs.Claimed.{claimed}
use Rattle.replay.specs.Shown.{rows_mean}
use Rattle.session.proofs.roots.first_difference.Given as goal

abbrev pub invariant-loop-at : goal.invariant-loop-at
invariant-loop-at l =
    let judgements = map (claimed (rows_mean l.fn.rows)) in
    (rows_mean l.rows ≡ rows_mean l.fn.rows) × (take l.at (judgements l.roots) ≡ take l.at (judgements l.claims))
