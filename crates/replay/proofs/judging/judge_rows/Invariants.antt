use Rattle.std.proofs.Common.{length}
use Rattle.replay.specs.Meant.{meant_by}
use Rattle.replay.specs.Sides.{Keeps}
use Rattle.replay.proofs.FileLaws.{Progress}
use Rattle.replay.proofs.judging.judge_rows.Given as goal

abbrev pub invariant-loop-row : goal.invariant-loop-row
invariant-loop-row l = record {
  progress : Progress l.bytes l.reader (meant_by l.rows.judge) l.rows.roots.items;
  keeps : Keeps l.rows.judge.sides l.rows.judge.store;
}

abbrev pub decreases-loop-row : goal.decreases-loop-row
decreases-loop-row l = length l.reader.rest
