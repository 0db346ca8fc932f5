use Rattle.std.proofs.Common.{◌≡◌}
use Rattle.std.specs.Prelude.{slice_get}
use Rattle.trees.specs.Things.{meanings}
use Rattle.rules.specs.Claims.{rule_over}
use Rattle.derivation.specs.Meanings.{conclusion_at}
use Rattle.replay.specs.Filed.{file_meanings}
use Rattle.rows.specs.Shown.{things}
use Rattle.replay.proofs.NodeLaws.{FirstHold}
use Rattle.replay.proofs.node.premises_hold.Given as goal

-- the premises so far hold, and the store is as before
abbrev pub invariant-loop-at : goal.invariant-loop-at
invariant-loop-at l =
    (things l.store ≡ things l.fn.store)
    × FirstHold (conclusion_at (file_meanings (things l.fn.store) l.filed)) l.premises (rule_over l.rule (meanings (slice_get (things l.fn.store)) l.rows)) l.at
