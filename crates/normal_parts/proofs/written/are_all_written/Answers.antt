use Rattle.std.proofs.Common.{◌+◌, refl, sym, ◌∙◌, ap, arith}
use Rattle.normal_parts.specs.Parts.{all_written}
use Rattle.normal_parts.proofs.TellLaws.{is-no, false-true}
use Rattle.normal_parts.proofs.WrittenLaws.{list-on, list-apart}
use Rattle.normal_parts.proofs.written.are_all_written.Goals as goal

pub returns-then-not-are_written : goal.returns-then-not-are_written
returns-then-not-are_written c =
    is-no (list-apart (all_written c.args.raised) c.args.lists.now c.args.written.now c.loop-i.i c.index-lists-i.result c.index-written-i.result c.loop-i-test.true (omega arith) c.index-lists-i.is c.index-written-i.is
    (λ e. false-true (c.if-not-are_written.ensures.1 (c.deref-in-loop-i.ensures.value ∙ e ∙ ap (all_written c.args.raised) (sym c.deref.ensures.value)))))

pub loop-i-preserved : goal.loop-i-preserved
loop-i-preserved c =
    list-on (all_written c.args.raised) c.args.lists.now c.args.written.now c.loop-i.i c.index-lists-i.result c.index-written-i.result c.loop-i-test.true (omega arith) c.index-lists-i.is c.index-written-i.is
    (sym c.deref-in-loop-i.ensures.value ∙ c.if-not-are_written.ensures.0 refl ∙ ap (all_written c.args.raised) c.deref.ensures.value) c.loop-i.invariant
