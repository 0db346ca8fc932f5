use Rattle.std.proofs.Common.{◌≡◌, length}
use Rattle.host_io.specs.Seen.{seen_sink, seen_source}
use Rattle.dialogue.specs.Dialogues.{AreAmong}
use Rattle.dialogue.specs.Steps.{Stands}
use Rattle.dialogue.proofs.talking.talk.Given as goal

abbrev pub invariant-loop-answering : goal.invariant-loop-answering
invariant-loop-answering g l =
    let answers = g.A.Answering.answers in
    let see = seen_source g.I.Source.left g.I.Source.faults in
    let seen = seen_sink g.O.Sink.taken g.O.Sink.faults in
    record {
      stands : Stands (answers l.fn.answering) (see l.fn.input) (see l.input) (seen l.fn.out) (seen l.out) l.pending.items l.room;
      same : AreAmong (answers l.fn.answering) (answers l.answering);
      long : length l.buffer ≡ 4096;
    }

abbrev pub decreases-loop-answering : goal.decreases-loop-answering
decreases-loop-answering g l = l.room
