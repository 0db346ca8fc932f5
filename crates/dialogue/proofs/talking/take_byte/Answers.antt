use Rattle.std.proofs.Common.{◌∷◌, [], ◌++◌, ◌∙◌, ap}
use Rattle.host_io.specs.Seen.{seen_sink}
use Rattle.dialogue.specs.Dialogues.{without_return}
use Rattle.dialogue.proofs.StepLaws.{byte_fed, memory_halted, newline_taken}
use Rattle.dialogue.proofs.talking.take_byte.Goals as goal

pub returns-then-byte-eq10-clause-stepped : goal.returns-then-byte-eq10-clause-stepped
returns-then-byte-eq10-clause-stepped g c =
    let see = seen_sink g.O.Sink.taken g.O.Sink.faults in
    newline_taken (g.A.Answering.answers c.args.answering.now) (see c.args.out.now) (see c.answer_line-flow.new.out)
    c.args.pending.now.items c.without_return.result.now c.clear.new.self.items c.args.byte c.answer_line-flow.result
    c.if-byte-eq10.true c.requires (c.without_return.ensures ∙ ap without_return c.deref.ensures.value)
    c.clear.ensures.items c.answer_line-flow.ensures.answered

pub returns-in-Ok-clause-stepped : goal.returns-in-Ok-clause-stepped
returns-in-Ok-clause-stepped g c =
    byte_fed (g.A.Answering.answers c.args.answering.now) (seen_sink g.O.Sink.taken g.O.Sink.faults c.args.out.now)
    c.args.pending.now.items c.push.new.self.items c.args.byte c.requires c.if-byte-eq10.false c.in-Ok.ensures.items

pub returns-in-Err-clause-stepped : goal.returns-in-Err-clause-stepped
returns-in-Err-clause-stepped g c =
    memory_halted (g.A.Answering.answers c.args.answering.now) (seen_sink g.O.Sink.taken g.O.Sink.faults c.args.out.now)
    (c.args.pending.now.items ++ c.args.byte ∷ [])
