use Rattle.std.proofs.Common.{get_or, sym, ◌∙◌, arith}
use Rattle.resolved_forms.proofs.Insides.{inside_bare}
use Rattle.resolved_forms.proofs.OpenedTexts.{motive_applied, motive_applied_inside, motive_body, motive_inside, motive_of_another, motive_of_none, motive_under, motive_under_inside, no_lambda}
use Rattle.resolved_forms.proofs.Slices.{front_any, front_one, no_span, none, rest_after}
use Rattle.resolved_forms.proofs.opened.+motive_text.Goals as goal

pub returns-in_default : goal.returns-in_default
returns-in_default t c =
    let seen = c.bare.ensures.text in
    record { reads = motive_applied_inside c.args.exp.now c.bare.result.now seen (motive_applied c.args.names.now.bytes.now c.args.place.now c.bare.result.now (inside_bare c.args.exp.now c.bare.result.now seen) (no_lambda c.bare.result.now c.in_default.not-Lambda)); smaller = tt }

pub returns-in-empty-clause-reads : goal.returns-in-empty-clause-reads
returns-in-empty-clause-reads t c =
    let bytes = c.args.names.now.bytes.now in
    let s = c.args.place.now in
    let empty = none c.as_slice.result.now (omega (arith, c.in-empty.len_below)) in
    motive_inside c.args.exp.now c.bare.result.now c.bare.ensures.text bytes s c.motive_text.result
    (motive_body bytes s c.in-Lambda.span c.in-Lambda.teles c.in-Lambda.body c.motive_text.result c.in-Lambda.is c.as_slice.ensures empty c.deref.ensures c.motive_text.ensures.reads)

pub returns-in_default-built_in_nat-clause-reads : goal.returns-in_default-built_in_nat-clause-reads
returns-in_default-built_in_nat-clause-reads t c =
    let ts = c.as_slice.result.now in
    let front = front_one ts c.first-item.result c.in-len1-up.len_at_least c.first-item.is in
    motive_applied_inside c.args.exp.now c.bare.result.now c.bare.ensures.text
    (motive_of_another c.args.names.now.bytes.now c.args.place.now c.in-Lambda.span c.in-Lambda.teles c.in-Lambda.body c.first-item.result (rest_after 1 ts) c.in-Lambda.is c.as_slice.ensures front
    (λ G H a. c.in_default-built_in_nat.ensures.told G H a) (sym c.in_default-built_in_nat.ensures.named))

pub returns-in-empty-as_slice-clause-reads : goal.returns-in-empty-as_slice-clause-reads
returns-in-empty-as_slice-clause-reads t c =
    let ts = c.as_slice.result.now in
    let front = front_one ts c.first-item.result c.in-len1-up.len_at_least c.first-item.is in
    let empty = none c.as_slice-in-len1-up.result.now (omega (arith, c.in-empty-as_slice.len_below)) in
    motive_applied_inside c.args.exp.now c.bare.result.now c.bare.ensures.text
    (motive_of_none c.args.names.now.bytes.now c.args.place.now c.in-Lambda.span c.in-Lambda.teles c.in-Lambda.body c.first-item.result (rest_after 1 ts) c.in-Lambda.is c.as_slice.ensures front
    (λ G H a. c.in-Some.ensures.told G H a) (sym c.as_slice-in-len1-up.ensures ∙ empty))

pub returns-in-len1-up-as_slice-clause-reads : goal.returns-in-len1-up-as_slice-clause-reads
returns-in-len1-up-as_slice-clause-reads t c =
    let ts = c.as_slice.result.now in
    let names = c.as_slice-in-len1-up.result.now in
    let front = front_one ts c.first-item.result c.in-len1-up.len_at_least c.first-item.is in
    motive_under_inside c.args.exp.now c.bare.result.now c.bare.ensures.text
    (motive_under c.args.names.now.bytes.now c.args.place.now c.in-Lambda.span c.in-Lambda.teles c.in-Lambda.body c.first-item.result (rest_after 1 ts) c.in-Lambda.is c.as_slice.ensures front
    (get_or names 0 no_span) c.in-Some.nat (rest_after 1 names) (λ G H a. c.in-Some.ensures.told G H a) (sym c.in-Some.ensures.named)
    (sym c.as_slice-in-len1-up.ensures ∙ front_any names no_span c.in-len1-up-as_slice.len_at_least) c.deref-in-len1-up-as_slice.ensures)
