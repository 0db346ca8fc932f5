use Rattle.std.proofs.Common.{◌≡◌, map, take, Some}
use Rattle.trees.specs.Claimed.{claimed}
use Rattle.replay.specs.Shown.{root_judgements, rows_mean}
use Rattle.session.proofs.roots.root_claims.Given as goal

abbrev pub invariant-loop-at : goal.invariant-loop-at
invariant-loop-at l = map (claimed (rows_mean l.rows)) l.claims.items ≡ map Some (take l.at (root_judgements l.rows))
