use Rattle.std.proofs.Common.{◌<◌}
use Rattle.literal_types.proofs.StepLaws.{all_at}
use Rattle.literal_types.proofs.WeightLaws.{some_weight, two_earlier}
use Rattle.literal_terms.specs.declared.ways.Way.TheVariants as way
use Rattle.literal_terms.proofs.FormLaws.{followed, opens_converted, opens_function, opens_glued, opens_instance, opens_pair, opens_path, six_glued, three_pair, three_path, two_converted, two_function, two_instance}
use Rattle.literal_terms.proofs.origins.opened.Goals as goal

pub first_two-requires : goal.first_two-requires
first_two-requires c =
    let (K, t, S, says) = c.requires in
    two_converted (followed c.way_of_rule.result way.Converted c.args.book.now c.step-row.result.rule c.step-row.result.parts.now c.step-row.result.premises.now c.args.node K t S c.in-Converted.is c.way_of_rule.ensures c.step-row.ensures.right says)

pub converted-requires : goal.converted-requires
converted-requires c =
    let (K, t, S, says) = c.requires in
    let (R, typed, equal) = opens_converted c.first_two.result.0.0 c.first_two.result.1.0 (followed c.way_of_rule.result way.Converted c.args.book.now c.step-row.result.rule c.step-row.result.parts.now c.step-row.result.premises.now c.args.node K t S c.in-Converted.is c.way_of_rule.ensures c.step-row.ensures.right says) c.first_two.ensures.first c.first_two.ensures.second in
    (K, t, R, S, says, typed, equal, all_at (λ k. k < c.args.node.0) c.step-row.result.premises.now 0 c.first_two.result.0.0 c.step-row.ensures.earlier c.first_two.ensures.first)

pub first_two-requires-in-Instance : goal.first_two-requires-in-Instance
first_two-requires-in-Instance c =
    let (K, t, S, says) = c.requires in
    two_instance (followed c.way_of_rule.result way.Instance c.args.book.now c.step-row.result.rule c.step-row.result.parts.now c.step-row.result.premises.now c.args.node K t S c.in-Instance.is c.way_of_rule.ensures c.step-row.ensures.right says)

pub first_two-requires-in-Function : goal.first_two-requires-in-Function
first_two-requires-in-Function c =
    let (K, t, S, says) = c.requires in
    two_function (followed c.way_of_rule.result way.Function c.args.book.now c.step-row.result.rule c.step-row.result.parts.now c.step-row.result.premises.now c.args.node K t S c.in-Function.is c.way_of_rule.ensures c.step-row.ensures.right says)

pub first_three-requires : goal.first_three-requires
first_three-requires c =
    let (K, t, S, says) = c.requires in
    three_pair (followed c.way_of_rule.result way.Pair c.args.book.now c.step-row.result.rule c.step-row.result.parts.now c.step-row.result.premises.now c.args.node K t S c.in-Pair.is c.way_of_rule.ensures c.step-row.ensures.right says)

pub first_three-requires-in-Path : goal.first_three-requires-in-Path
first_three-requires-in-Path c =
    let (K, t, S, says) = c.requires in
    three_path (followed c.way_of_rule.result way.Path c.args.book.now c.step-row.result.rule c.step-row.result.parts.now c.step-row.result.premises.now c.args.node K t S c.in-Path.is c.way_of_rule.ensures c.step-row.ensures.right says)

pub glued_by-requires : goal.glued_by-requires
glued_by-requires c =
    let (K, t, S, says) = c.requires in
    six_glued (followed c.way_of_rule.result way.Glued c.args.book.now c.step-row.result.rule c.step-row.result.parts.now c.step-row.result.premises.now c.args.node K t S c.in-Glued.is c.way_of_rule.ensures c.step-row.ensures.right says)

pub returns-in-Converted-clause-comes : goal.returns-in-Converted-clause-comes
returns-in-Converted-clause-comes c = λ K t S says.
    let (R, typed, equal) = opens_converted c.first_two.result.0.0 c.first_two.result.1.0 (followed c.way_of_rule.result way.Converted c.args.book.now c.step-row.result.rule c.step-row.result.parts.now c.step-row.result.premises.now c.args.node K t S c.in-Converted.is c.way_of_rule.ensures c.step-row.ensures.right says) c.first_two.ensures.first c.first_two.ensures.second in
    c.converted.ensures.comes K t R S says typed equal

pub returns-in-Instance-clause-comes : goal.returns-in-Instance-clause-comes
returns-in-Instance-clause-comes c = λ K t S says.
    opens_instance c.first_two-in-Instance.result.0.0 c.first_two-in-Instance.result.1.0 (followed c.way_of_rule.result way.Instance c.args.book.now c.step-row.result.rule c.step-row.result.parts.now c.step-row.result.premises.now c.args.node K t S c.in-Instance.is c.way_of_rule.ensures c.step-row.ensures.right says) c.first_two-in-Instance.ensures.first c.first_two-in-Instance.ensures.second

pub returns-in-Variable-clause-comes : goal.returns-in-Variable-clause-comes
returns-in-Variable-clause-comes c = λ K t S says.
    (followed c.way_of_rule.result way.Variable c.args.book.now c.step-row.result.rule c.step-row.result.parts.now c.step-row.result.premises.now c.args.node K t S c.in-Variable.is c.way_of_rule.ensures c.step-row.ensures.right says).follows

pub returns-in-Function-clause-comes : goal.returns-in-Function-clause-comes
returns-in-Function-clause-comes c = λ K t S says.
    opens_function c.first_two-in-Function.result.0.0 c.first_two-in-Function.result.1.0 (followed c.way_of_rule.result way.Function c.args.book.now c.step-row.result.rule c.step-row.result.parts.now c.step-row.result.premises.now c.args.node K t S c.in-Function.is c.way_of_rule.ensures c.step-row.ensures.right says) c.first_two-in-Function.ensures.first c.first_two-in-Function.ensures.second

pub returns-in-Pair-clause-comes : goal.returns-in-Pair-clause-comes
returns-in-Pair-clause-comes c = λ K t S says.
    opens_pair c.first_three.result.0.0 c.first_three.result.1.0 c.first_three.result.2.0 (followed c.way_of_rule.result way.Pair c.args.book.now c.step-row.result.rule c.step-row.result.parts.now c.step-row.result.premises.now c.args.node K t S c.in-Pair.is c.way_of_rule.ensures c.step-row.ensures.right says) c.first_three.ensures.first c.first_three.ensures.second c.first_three.ensures.third

pub returns-in-Path-clause-comes : goal.returns-in-Path-clause-comes
returns-in-Path-clause-comes c = λ K t S says.
    opens_path c.first_three-in-Path.result.0.0 c.first_three-in-Path.result.1.0 c.first_three-in-Path.result.2.0 (followed c.way_of_rule.result way.Path c.args.book.now c.step-row.result.rule c.step-row.result.parts.now c.step-row.result.premises.now c.args.node K t S c.in-Path.is c.way_of_rule.ensures c.step-row.ensures.right says) c.first_three-in-Path.ensures.first c.first_three-in-Path.ensures.second c.first_three-in-Path.ensures.third

pub returns-in-Glued-clause-comes : goal.returns-in-Glued-clause-comes
returns-in-Glued-clause-comes c = λ K t S says.
    opens_glued c.glued_by.result (followed c.way_of_rule.result way.Glued c.args.book.now c.step-row.result.rule c.step-row.result.parts.now c.step-row.result.premises.now c.args.node K t S c.in-Glued.is c.way_of_rule.ensures c.step-row.ensures.right says) c.glued_by.ensures

pub returns-in-Type-clause-comes : goal.returns-in-Type-clause-comes
returns-in-Type-clause-comes c = λ K t S says.
    let f = (followed c.way_of_rule.result way.Type c.args.book.now c.step-row.result.rule c.step-row.result.parts.now c.step-row.result.premises.now c.args.node K t S c.in-Type.is c.way_of_rule.ensures c.step-row.ensures.right says).follows in
    (f.0, f.1, says)

pub returns-in-Other-clause-comes : goal.returns-in-Other-clause-comes
returns-in-Other-clause-comes c = λ K t S says.
    (followed c.way_of_rule.result way.Other c.args.book.now c.step-row.result.rule c.step-row.result.parts.now c.step-row.result.premises.now c.args.node K t S c.in-Other.is c.way_of_rule.ensures c.step-row.ensures.right says).follows

pub returns-in-Variable-clause-less : goal.returns-in-Variable-clause-less
returns-in-Variable-clause-less c = some_weight c.args.node

pub returns-in-Function-clause-less : goal.returns-in-Function-clause-less
returns-in-Function-clause-less c = some_weight c.args.node

pub returns-in-Pair-clause-less : goal.returns-in-Pair-clause-less
returns-in-Pair-clause-less c = some_weight c.args.node

pub returns-in-Path-clause-less : goal.returns-in-Path-clause-less
returns-in-Path-clause-less c = some_weight c.args.node

pub returns-in-Glued-clause-less : goal.returns-in-Glued-clause-less
returns-in-Glued-clause-less c = some_weight c.args.node

pub returns-in-Type-clause-less : goal.returns-in-Type-clause-less
returns-in-Type-clause-less c = some_weight c.args.node

pub returns-in-Other-clause-less : goal.returns-in-Other-clause-less
returns-in-Other-clause-less c = some_weight c.args.node

pub returns-in-Instance-clause-less : goal.returns-in-Instance-clause-less
returns-in-Instance-clause-less c =
    two_earlier c.first_two-in-Instance.result.0 c.first_two-in-Instance.result.1 c.args.node
    (all_at (λ k. k < c.args.node.0) c.step-row.result.premises.now 0 c.first_two-in-Instance.result.0.0 c.step-row.ensures.earlier c.first_two-in-Instance.ensures.first)
    (all_at (λ k. k < c.args.node.0) c.step-row.result.premises.now 1 c.first_two-in-Instance.result.1.0 c.step-row.ensures.earlier c.first_two-in-Instance.ensures.second)
