use Rattle.evidence.proofs.FaceLaws.{conj_more}
use Rattle.std.proofs.Common.{◌∙◌, ◌++◌, ap, string_bytes}
use Rattle.evidence.proofs.face_texts.conj_text.Goals as goal

pub loop-equation-preserved : goal.loop-equation-preserved
loop-equation-preserved c =
    conj_more c.args.conj.now c.loop-equation.equation-index _ (string_bytes c.loop-equation.text) (string_bytes c.in_ok-next.next) (string_bytes c.push_str.new.self)
    c.loop-equation-test.true c.loop-equation.invariant c.in_ok-next.ensures
    (c.in_ok-push_str.ensures.bytes ∙ ap (λ bytes. string_bytes c.loop-equation.text ++ bytes) c.as_str.ensures.value)
