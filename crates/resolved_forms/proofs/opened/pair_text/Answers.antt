use Rattle.std.proofs.Common.{ap, ◌∷◌, ◌∙◌, arith}
use Rattle.resolved_forms.proofs.Insides.{inside_bare}
use Rattle.resolved_forms.proofs.OpenedTexts.{empty_brackets, no_pair, no_pair_inside, not_alone, pair_of_inside, pair_term, pair_written}
use Rattle.resolved_forms.proofs.Slices.{front_one, none, rest_after}
use Rattle.resolved_forms.proofs.opened.pair_text.Goals as goal

pub returns-in_default : goal.returns-in_default
returns-in_default c =
    let seen = c.bare.ensures.text in
    record { reads = no_pair_inside c.args.exp.now c.bare.result.now seen (pair_term c.bare.result.now (inside_bare c.args.exp.now c.bare.result.now seen) (no_pair c.bare.result.now c.in_default.not-Brackets)); smaller = tt }

pub returns-in-empty-clause-reads : goal.returns-in-empty-clause-reads
returns-in-empty-clause-reads c =
    let seen = c.bare.ensures.text in
    let empty = none c.as_slice.result.now (omega (arith, c.in-empty.len_below)) in
    no_pair_inside c.args.exp.now c.bare.result.now seen (pair_term c.bare.result.now (inside_bare c.args.exp.now c.bare.result.now seen) (empty_brackets c.in-Brackets.span c.in-Brackets.components c.in-Brackets.is c.as_slice.ensures empty))

pub returns-in-len1-up-clause-reads : goal.returns-in-len1-up-clause-reads
returns-in-len1-up-clause-reads c =
    let seen = c.bare.ensures.text in
    let xs = c.as_slice.result.now in
    let front = front_one xs c.ty-item.result c.in-len1-up.len_at_least c.ty-item.is in
    pair_of_inside c.args.exp.now c.bare.result.now seen (pair_written c.in-Brackets.span c.in-Brackets.components c.ty-item.result (rest_after 1 xs) c.in-Brackets.is c.as_slice.ensures front
    (λ alone. not_alone c.args.exp.now c.bare.result.now seen c.in-Brackets.span c.in-Brackets.components c.in-Brackets.is c.as_slice.ensures (front ∙ ap (λ ys. c.ty-item.result ∷ ys) alone)))
