use Rattle.std.proofs.Common.{◌<◌, ◌++◌, length, ◌∙◌, ap, sym}
use Rattle.host_io.specs.Counts.{one_more}
use Rattle.host_io.specs.Seen.{seen_sink}
use Rattle.dialogue.proofs.WriteLemmas.{went_on, stopped, some_left, cut_off}
use Rattle.dialogue.proofs.writing.write_text.Goals as goal

pub loop-rest-preserved : goal.loop-rest-preserved
loop-rest-preserved g c =
    let i = c.loop-rest.invariant in
    let w = c.in_ok-rest.ensures in
    let taken = g.O.Sink.taken in
    let m = went_on (taken c.args.out.now) (taken c.loop-rest.out) (taken c.write_some.new.out) c.args.text.now i.0 c.loop-rest.rest.now w.0 i.1 i.2 w.3 in
    (m.0, m.1 ∙ ap (λ l. m.0 ++ l) (sym w.2), m.2, w.4 ∙ i.3)

pub returns-in_err-rest : goal.returns-in_err-rest
returns-in_err-rest g c =
    let i = c.loop-rest.invariant in
    let w = c.in_err-rest.ensures in
    let taken = g.O.Sink.taken in
    let see = seen_sink g.O.Sink.taken g.O.Sink.faults in
    let some : 0 < length c.loop-rest.rest.now = some_left c.loop-rest.rest.now c.is_empty.result c.is_empty.ensures c.loop-rest-test.true in
    let s = stopped (taken c.args.out.now) (taken c.loop-rest.out) (taken c.write_some.new.out) c.args.text.now i.0 c.loop-rest.rest.now i.1 some i.2 w.1 in
    cut_off c.args.text.now (see c.args.out.now) (see c.write_some.new.out) c.from_residual.result c.from_residual.ensures.0
    (w.0 ∙ ap one_more i.3, s.0, s.1, s.2)
