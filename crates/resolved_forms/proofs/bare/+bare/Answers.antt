use Rattle.std.proofs.Common.{arith}
use Rattle.resolved_forms.proofs.Insides.{bare_one, bare_several}
use Rattle.resolved_forms.proofs.Slices.{only_one}
use Rattle.resolved_forms.proofs.bare.+bare.Goals as goal

pub returns-in-empty-clause-text : goal.returns-in-empty-clause-text
returns-in-empty-clause-text t c =
    bare_several c.in-Brackets.span c.in-Brackets.components c.in-Brackets.is c.as_slice.ensures (λ e. omega (arith, c.in-empty.len_below))

pub returns-in-len1-clause-text : goal.returns-in-len1-clause-text
returns-in-len1-clause-text t c =
    let one = only_one c.as_slice.result.now c.only-item.result (omega (arith, c.in-len1.len_at_least, c.in-len1.len_below)) c.only-item.is in
    bare_one c.in-Brackets.span c.in-Brackets.components c.bare.result.now c.in-Brackets.is c.as_slice.ensures one c.bare.ensures.text

pub returns-in-len2-up-clause-text : goal.returns-in-len2-up-clause-text
returns-in-len2-up-clause-text t c =
    bare_several c.in-Brackets.span c.in-Brackets.components c.in-Brackets.is c.as_slice.ensures (λ e. omega (arith, c.in-len2-up.len_at_least))
