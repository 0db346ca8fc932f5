use Rattle.rows.specs.Shown.{things}
use Rattle.replay.proofs.NamedLaws.{NamesSo}
use Rattle.replay.proofs.named.named_rows.Given as goal

-- the numbers so far name the things of these rows, of the kinds
abbrev pub invariant-loop-at : goal.invariant-loop-at
invariant-loop-at l = NamesSo (things l.store) l.filed l.numbers l.kinds l.at l.rows.items
