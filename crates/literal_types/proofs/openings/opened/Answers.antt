use Rattle.std.proofs.Common.{◌<◌, arith}
use Rattle.literal_types.specs.declared.ways.Way.TheVariants as way
use Rattle.literal_types.proofs.FormLaws.{followed, one_same, two_instance, two_family, three_line, opens_same, opens_instance, opens_family, opens_line}
use Rattle.literal_types.proofs.StepLaws.{all_at}
use Rattle.literal_types.proofs.WeightLaws.{some_weight, one_earlier, two_earlier}
use Rattle.literal_types.proofs.openings.opened.Goals as goal

pub number_at-requires : goal.number_at-requires
number_at-requires c =
    let (K, A, types) = c.requires in
    one_same (followed c.way_of_rule.result way.Same c.args.book.now c.step-row.result.rule c.step-row.result.parts.now c.step-row.result.premises.now c.args.node K A c.in-Same.is c.way_of_rule.ensures c.step-row.ensures.right types)

pub first_two-requires : goal.first_two-requires
first_two-requires c =
    let (K, A, types) = c.requires in
    two_instance (followed c.way_of_rule.result way.Instance c.args.book.now c.step-row.result.rule c.step-row.result.parts.now c.step-row.result.premises.now c.args.node K A c.in-Instance.is c.way_of_rule.ensures c.step-row.ensures.right types)

pub first_two-requires-in-Family : goal.first_two-requires-in-Family
first_two-requires-in-Family c =
    let (K, A, types) = c.requires in
    two_family (followed c.way_of_rule.result (way.Family c.in-Family.former c.in-Family.size) c.args.book.now c.step-row.result.rule c.step-row.result.parts.now c.step-row.result.premises.now c.args.node K A c.in-Family.is c.way_of_rule.ensures c.step-row.ensures.right types)

pub first_two-requires-in-Line : goal.first_two-requires-in-Line
first_two-requires-in-Line c =
    let (K, A, types) = c.requires in
    let three = three_line (followed c.way_of_rule.result (way.Line c.in-Line.size) c.args.book.now c.step-row.result.rule c.step-row.result.parts.now c.step-row.result.premises.now c.args.node K A c.in-Line.is c.way_of_rule.ensures c.step-row.ensures.right types) in
    omega (arith, three)

pub number_at-requires-in-Line : goal.number_at-requires-in-Line
number_at-requires-in-Line c =
    let (K, A, types) = c.requires in
    three_line (followed c.way_of_rule.result (way.Line c.in-Line.size) c.args.book.now c.step-row.result.rule c.step-row.result.parts.now c.step-row.result.premises.now c.args.node K A c.in-Line.is c.way_of_rule.ensures c.step-row.ensures.right types)

pub returns-in-Same-clause-opens : goal.returns-in-Same-clause-opens
returns-in-Same-clause-opens c = λ K A types.
    opens_same c.number_at.result (followed c.way_of_rule.result way.Same c.args.book.now c.step-row.result.rule c.step-row.result.parts.now c.step-row.result.premises.now c.args.node K A c.in-Same.is c.way_of_rule.ensures c.step-row.ensures.right types) c.number_at.ensures

pub returns-in-Instance-clause-opens : goal.returns-in-Instance-clause-opens
returns-in-Instance-clause-opens c = λ K A types.
    opens_instance c.first_two.result.0.0 c.first_two.result.1.0 (followed c.way_of_rule.result way.Instance c.args.book.now c.step-row.result.rule c.step-row.result.parts.now c.step-row.result.premises.now c.args.node K A c.in-Instance.is c.way_of_rule.ensures c.step-row.ensures.right types) c.first_two.ensures.first c.first_two.ensures.second

pub returns-in-Variable-clause-opens : goal.returns-in-Variable-clause-opens
returns-in-Variable-clause-opens c = λ K A types.
    (followed c.way_of_rule.result way.Variable c.args.book.now c.step-row.result.rule c.step-row.result.parts.now c.step-row.result.premises.now c.args.node K A c.in-Variable.is c.way_of_rule.ensures c.step-row.ensures.right types).follows

pub returns-in-Family-clause-opens : goal.returns-in-Family-clause-opens
returns-in-Family-clause-opens c = λ K A types.
    opens_family c.in-Family.former c.in-Family.size c.first_two-in-Family.result.0.0 c.first_two-in-Family.result.1.0 (followed c.way_of_rule.result (way.Family c.in-Family.former c.in-Family.size) c.args.book.now c.step-row.result.rule c.step-row.result.parts.now c.step-row.result.premises.now c.args.node K A c.in-Family.is c.way_of_rule.ensures c.step-row.ensures.right types) c.first_two-in-Family.ensures.first c.first_two-in-Family.ensures.second

pub returns-in-Line-clause-opens : goal.returns-in-Line-clause-opens
returns-in-Line-clause-opens c = λ K A types.
    opens_line c.in-Line.size c.first_two-in-Line.result.0.0 c.first_two-in-Line.result.1.0 c.number_at-in-Line.result (followed c.way_of_rule.result (way.Line c.in-Line.size) c.args.book.now c.step-row.result.rule c.step-row.result.parts.now c.step-row.result.premises.now c.args.node K A c.in-Line.is c.way_of_rule.ensures c.step-row.ensures.right types) c.first_two-in-Line.ensures.first c.first_two-in-Line.ensures.second c.number_at-in-Line.ensures

pub returns-in-Other-clause-opens : goal.returns-in-Other-clause-opens
returns-in-Other-clause-opens c = λ K A types.
    (followed c.way_of_rule.result way.Other c.args.book.now c.step-row.result.rule c.step-row.result.parts.now c.step-row.result.premises.now c.args.node K A c.in-Other.is c.way_of_rule.ensures c.step-row.ensures.right types).follows

pub returns-in-Variable-clause-less : goal.returns-in-Variable-clause-less
returns-in-Variable-clause-less c = some_weight c.args.node

pub returns-in-Family-clause-less : goal.returns-in-Family-clause-less
returns-in-Family-clause-less c = some_weight c.args.node

pub returns-in-Line-clause-less : goal.returns-in-Line-clause-less
returns-in-Line-clause-less c = some_weight c.args.node

pub returns-in-Other-clause-less : goal.returns-in-Other-clause-less
returns-in-Other-clause-less c = some_weight c.args.node

pub returns-in-Same-clause-less : goal.returns-in-Same-clause-less
returns-in-Same-clause-less c =
    let less = one_earlier (record { 0 = c.number_at.result }) c.args.node (all_at (λ k. k < c.args.node.0) c.step-row.result.premises.now 0 c.number_at.result c.step-row.ensures.earlier c.number_at.ensures) in
    omega (arith, less)

pub returns-in-Instance-clause-less : goal.returns-in-Instance-clause-less
returns-in-Instance-clause-less c =
    two_earlier c.first_two.result.0 c.first_two.result.1 c.args.node
    (all_at (λ k. k < c.args.node.0) c.step-row.result.premises.now 0 c.first_two.result.0.0 c.step-row.ensures.earlier c.first_two.ensures.first)
    (all_at (λ k. k < c.args.node.0) c.step-row.result.premises.now 1 c.first_two.result.1.0 c.step-row.ensures.earlier c.first_two.ensures.second)
