use Rattle.std.proofs.Common.{◌≡◌, ◌<◌, ◌≤◌, length, arith, rules, sym}
use Rattle.host_io.specs.Seen.{seen_sink, seen_source}
use Rattle.dialogue.proofs.TalkLaws.{piece_halted, piece_taken, piece_too_long, stands_first, talked_at_end, talked_failed}
use Rattle.dialogue.proofs.talking.talk.Goals as goal

pub loop-answering-init : goal.loop-answering-init
loop-answering-init g c =
    let see = seen_source g.I.Source.left g.I.Source.faults in
    let seen = seen_sink g.O.Sink.taken g.O.Sink.faults in
    record {
      stands = stands_first (g.A.Answering.answers c.args.answering.now) (see c.args.input.now) (seen c.args.out.now) c.new-pending.result.items c.new-pending.ensures.items;
      same = λ line text h. h;
      long = search rules;
    }

pub slice_bounds-read-end : goal.slice_bounds-read-end
slice_bounds-read-end g c = sym c.loop-answering.invariant.long

pub returns-in-Bytes-eq0-clause-talked : goal.returns-in-Bytes-eq0-clause-talked
returns-in-Bytes-eq0-clause-talked g c =
    let answers = g.A.Answering.answers in
    let see = seen_source g.I.Source.left g.I.Source.faults in
    let seen = seen_sink g.O.Sink.taken g.O.Sink.faults in
    let inv = c.loop-answering.invariant in
    let read = c.in-Bytes-eq0.ensures in
    let zero : c.in-Bytes-eq0.field-0 ≡ 0 = omega (arith, c.in-Bytes-eq0.field-0-is) in
    let some : 0 < length c.read.new.buf = omega (arith, c.read.auto.buf, inv.long) in
    talked_at_end (answers c.args.answering.now) (answers c.loop-answering.answering) inv.same
    (see c.args.input.now) (see c.loop-answering.input) (see c.read.new.self)
    (seen c.args.out.now) (seen c.loop-answering.out) (seen c.answer_last.new.out)
    c.loop-answering.pending.items c.loop-answering.room inv.stands c.read.new.buf c.in-Bytes-eq0.field-0 read.bytes read.counted
    c.deref.result.now c.answer_last.result zero read.end some c.deref.ensures.value c.answer_last.ensures.answered

pub returns-in-Bytes-eq0-clause-same : goal.returns-in-Bytes-eq0-clause-same
returns-in-Bytes-eq0-clause-same g c = λ line text h. c.loop-answering.invariant.same line text (c.answer_last.ensures.same line text h)

pub returns-in-Failed-clause-talked : goal.returns-in-Failed-clause-talked
returns-in-Failed-clause-talked g c =
    let see = seen_source g.I.Source.left g.I.Source.faults in
    let seen = seen_sink g.O.Sink.taken g.O.Sink.faults in
    talked_failed (g.A.Answering.answers c.args.answering.now)
    (see c.args.input.now) (see c.loop-answering.input) (see c.read.new.self) (seen c.args.out.now) (seen c.loop-answering.out)
    c.loop-answering.pending.items c.loop-answering.room c.loop-answering.invariant.stands c.in-Failed.ensures.bytes c.in-Failed.ensures.counted

pub returns-in-Failed-clause-same : goal.returns-in-Failed-clause-same
returns-in-Failed-clause-same g c = c.loop-answering.invariant.same

pub slice_bounds-buffer-end : goal.slice_bounds-buffer-end
slice_bounds-buffer-end g c = omega (arith, c.min.ensures, c.in-Bytes.ensures.bytes.0)

pub take_piece-requires : goal.take_piece-requires
take_piece-requires g c = c.loop-answering.invariant.stands.fed.one_line

pub returns-in-Break-clause-talked : goal.returns-in-Break-clause-talked
returns-in-Break-clause-talked g c =
    let answers = g.A.Answering.answers in
    let see = seen_source g.I.Source.left g.I.Source.faults in
    let seen = seen_sink g.O.Sink.taken g.O.Sink.faults in
    let inv = c.loop-answering.invariant in
    let read = c.in-Bytes.ensures in
    let within_read : c.min.result ≤ c.in-Bytes.count = omega (arith, c.min.ensures) in
    let room : c.min.result ≤ c.loop-answering.room = omega (arith, c.min.ensures) in
    let long : length c.read.new.buf ≡ 4096 = omega (arith, c.read.auto.buf, inv.long) in
    piece_halted (answers c.args.answering.now) (answers c.loop-answering.answering) inv.same
    (see c.args.input.now) (see c.loop-answering.input) (see c.read.new.self)
    (seen c.args.out.now) (seen c.loop-answering.out) (seen c.take_piece.new.out)
    c.loop-answering.pending.items c.loop-answering.room inv.stands c.read.new.buf c.in-Bytes.count read.bytes read.counted
    c.min.result within_read long c.in-Break.ending room c.in-Break.ensures.stepped

pub returns-in-Break-clause-same : goal.returns-in-Break-clause-same
returns-in-Break-clause-same g c = λ line text h. c.loop-answering.invariant.same line text (c.take_piece.ensures.same line text h)

pub returns-then-count-room-clause-talked : goal.returns-then-count-room-clause-talked
returns-then-count-room-clause-talked g c =
    let answers = g.A.Answering.answers in
    let see = seen_source g.I.Source.left g.I.Source.faults in
    let seen = seen_sink g.O.Sink.taken g.O.Sink.faults in
    let inv = c.loop-answering.invariant in
    let read = c.in-Bytes.ensures in
    let within_read : c.min.result ≤ c.in-Bytes.count = omega (arith, c.min.ensures) in
    let full : c.min.result ≡ c.loop-answering.room = omega (arith, c.min.ensures, c.if-count-room.true) in
    let long : length c.read.new.buf ≡ 4096 = omega (arith, c.read.auto.buf, inv.long) in
    piece_too_long (answers c.args.answering.now) (answers c.loop-answering.answering) inv.same
    (see c.args.input.now) (see c.loop-answering.input) (see c.read.new.self)
    (seen c.args.out.now) (seen c.loop-answering.out) (seen c.take_piece.new.out)
    c.loop-answering.pending.items c.loop-answering.room inv.stands c.read.new.buf c.in-Bytes.count read.bytes read.counted
    c.min.result within_read long c.take_piece.new.pending.items full c.if-count-room.true c.in-Continue.ensures.stepped

pub returns-then-count-room-clause-same : goal.returns-then-count-room-clause-same
returns-then-count-room-clause-same g c = λ line text h. c.loop-answering.invariant.same line text (c.take_piece.ensures.same line text h)

pub loop-answering-preserved : goal.loop-answering-preserved
loop-answering-preserved g c =
    let answers = g.A.Answering.answers in
    let see = seen_source g.I.Source.left g.I.Source.faults in
    let seen = seen_sink g.O.Sink.taken g.O.Sink.faults in
    let inv = c.loop-answering.invariant in
    let read = c.in-Bytes.ensures in
    let whole : c.min.result ≡ c.in-Bytes.count = omega (arith, c.min.ensures, c.if-count-room.false) in
    record {
      stands = piece_taken (answers c.args.answering.now) (answers c.loop-answering.answering) inv.same
          (see c.args.input.now) (see c.loop-answering.input) (see c.read.new.self)
          (seen c.args.out.now) (seen c.loop-answering.out) (seen c.take_piece.new.out)
          c.loop-answering.pending.items c.loop-answering.room inv.stands c.read.new.buf c.in-Bytes.count read.bytes read.counted
          c.min.result c.take_piece.new.pending.items whole c.if-count-room.false c.in-Continue.ensures.stepped;
      same = λ line text h. inv.same line text (c.take_piece.ensures.same line text h);
      long = omega (arith, c.read.auto.buf, inv.long);
    }
