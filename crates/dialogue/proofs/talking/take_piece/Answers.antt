use Rattle.std.proofs.Common.{◌++◌, sym, subst}
use Rattle.std.specs.declared.ops.ControlFlow.{ControlFlow}
use Rattle.host_io.specs.Seen.{seen_sink}
use Rattle.dialogue.specs.declared.talking.Ending.{Ending}
use Rattle.dialogue.specs.Steps.{Stepped}
use Rattle.dialogue.proofs.StepLaws.{byte_followed, byte_halted, fed_pending, piece_fed}
use Rattle.dialogue.proofs.talking.take_piece.Goals as goal

pub loop-byte-init : goal.loop-byte-init
loop-byte-init g c = record {
  fed = fed_pending (g.A.Answering.answers c.args.answering.now) (seen_sink g.O.Sink.taken g.O.Sink.faults c.args.out.now) c.args.pending.now.items c.requires;
  same = λ line text h. h;
}

pub take_byte-requires : goal.take_byte-requires
take_byte-requires g c = c.loop-byte.invariant.fed.one_line

pub returns-in_err-take_byte-clause-stepped : goal.returns-in_err-take_byte-clause-stepped
returns-in_err-take_byte-clause-stepped g c =
    let answers = g.A.Answering.answers in
    let see = seen_sink g.O.Sink.taken g.O.Sink.faults in
    let inv = c.loop-byte.invariant in
    subst
    (λ (flow : ControlFlow Ending Unit). Stepped (answers c.args.answering.now) (see c.args.out.now) (see c.take_byte.new.out) (c.args.pending.now.items ++ c.args.piece.now) c.take_byte.new.pending.items flow)
    (sym c.from_residual.ensures)
    (byte_halted (answers c.args.answering.now) (answers c.loop-byte.answering) inv.same
    (see c.args.out.now) (see c.loop-byte.out) (see c.take_byte.new.out)
    c.args.pending.now.items c.args.piece.now c.loop-byte.pending.items c.loop-byte.byte-index c.loop-byte-test.true inv.fed
    c.in_err-take_byte.field-0.0 c.in_err-take_byte.ensures.stepped)

pub returns-in_err-take_byte-clause-same : goal.returns-in_err-take_byte-clause-same
returns-in_err-take_byte-clause-same g c = λ line text h. c.loop-byte.invariant.same line text (c.take_byte.ensures.same line text h)

pub loop-byte-preserved : goal.loop-byte-preserved
loop-byte-preserved g c =
    let answers = g.A.Answering.answers in
    let see = seen_sink g.O.Sink.taken g.O.Sink.faults in
    let inv = c.loop-byte.invariant in
    record {
      fed = byte_followed (answers c.args.answering.now) (answers c.loop-byte.answering) inv.same
          (see c.args.out.now) (see c.loop-byte.out) (see c.take_byte.new.out)
          c.args.pending.now.items c.args.piece.now c.loop-byte.pending.items c.loop-byte.byte-index c.loop-byte-test.true inv.fed
          c.take_byte.new.pending.items c.in_ok-take_byte.ensures.stepped;
      same = λ line text h. inv.same line text (c.take_byte.ensures.same line text h);
    }

pub returns-clause-stepped : goal.returns-clause-stepped
returns-clause-stepped g c =
    let see = seen_sink g.O.Sink.taken g.O.Sink.faults in
    piece_fed (g.A.Answering.answers c.args.answering.now) (see c.args.out.now) (see c.loop-byte.out)
    c.args.pending.now.items c.args.piece.now c.loop-byte.pending.items c.loop-byte.byte-index c.loop-byte-test.false c.loop-byte.invariant.fed

pub returns-clause-same : goal.returns-clause-same
returns-clause-same g c = c.loop-byte.invariant.same
