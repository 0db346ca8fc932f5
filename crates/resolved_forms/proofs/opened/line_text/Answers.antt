use Rattle.std.proofs.Common.{get_or, arith}
use Rattle.resolved_forms.proofs.Insides.{inside_bare}
use Rattle.resolved_forms.proofs.OpenedTexts.{line_applied, line_applied_inside, line_under, line_under_inside, no_path, some_names}
use Rattle.resolved_forms.proofs.Slices.{front_any, no_span, none, rest_after}
use Rattle.resolved_forms.proofs.opened.line_text.Goals as goal

pub returns-in_default : goal.returns-in_default
returns-in_default c =
    let seen = c.bare.ensures.text in
    record { reads = line_applied_inside c.args.exp.now c.bare.result.now seen (line_applied c.bare.result.now (inside_bare c.args.exp.now c.bare.result.now seen) (no_path c.bare.result.now c.in_default.not-PathLambda)); smaller = tt }

pub returns-in-empty-clause-reads : goal.returns-in-empty-clause-reads
returns-in-empty-clause-reads c =
    let empty = none c.as_slice.result.now (omega (arith, c.in-empty.len_below)) in
    absurd (some_names c.args.exp.now c.bare.result.now c.bare.ensures.text c.in-PathLambda.span c.in-PathLambda.names c.in-PathLambda.body c.in-PathLambda.is c.as_slice.ensures empty)

pub returns-in-len1-up-clause-reads : goal.returns-in-len1-up-clause-reads
returns-in-len1-up-clause-reads c =
    let names = c.as_slice.result.now in
    line_under_inside c.args.exp.now c.bare.result.now c.bare.ensures.text
    (line_under c.in-PathLambda.span (get_or names 0 no_span) c.in-PathLambda.names (rest_after 1 names) c.in-PathLambda.body c.in-PathLambda.is c.as_slice.ensures (front_any names no_span c.in-len1-up.len_at_least) c.deref.ensures)
