use Rattle.std.proofs.Common.{◌++◌, take}
use Rattle.host_io.specs.Seen.{seen_sink}
use Rattle.dialogue.specs.Dialogues.{AreAmong}
use Rattle.dialogue.specs.Steps.{Fed}
use Rattle.dialogue.proofs.talking.take_piece.Given as goal

-- what was taken of the piece is answered, but for the line that has not ended
abbrev pub invariant-loop-byte : goal.invariant-loop-byte
invariant-loop-byte g l =
    let answers = g.A.Answering.answers in
    let see = seen_sink g.O.Sink.taken g.O.Sink.faults in
    record {
      fed : Fed (answers l.fn.answering) (see l.fn.out) (see l.out) (l.fn.pending.items ++ take l.byte-index l.piece) l.pending.items;
      same : AreAmong (answers l.fn.answering) (answers l.answering);
    }
