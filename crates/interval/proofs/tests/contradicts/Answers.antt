-- Where a name and its negation both hold, their meet does, and 0 does not.
use Rattle.std.proofs.Common.{true, [], ap, sym, ◌∙◌}
use Rattle.std.proofs.lemmas.Bool.{false_from_ne_true, both_ways}
use Rattle.points.specs.Values.{Value, Valuation, with_value, negation, meet}
use Rattle.points.proofs.Valuations.{with_value_same}
use Rattle.interval.specs.Forms.{form_value}
use Rattle.interval.proofs.tests.contradicts.Goals as goal

pub returns : goal.returns
returns c =
    let both : Value = record { holds = true; fails = true } in
    let valuation : Valuation = with_value c.args.name both [] in
    let name = c.in_ok-form.ensures valuation ∙ with_value_same c.args.name both [] in
    let met =
    c.in_ok-both.ensures valuation
    ∙ ap (meet (form_value c.in_ok-form.form valuation)) (c.in_ok-neg.ensures valuation)
    ∙ ap (λ v. meet v (negation v)) name
    in
    false_from_ne_true c.same-2.result (λ h.
    let equal = sym (c.same-2.ensures.values.0 h valuation) ∙ met in
    both_ways (form_value c.in_ok-zero.field-0 valuation).holds (ap (λ (v : Value). v.holds) (c.in_ok-zero.ensures valuation)) (ap (λ (v : Value). v.holds) equal))
