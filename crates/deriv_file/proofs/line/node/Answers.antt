use Rattle.std.proofs.Common.{[], refl, sym, subst, map, decimal}
use Rattle.deriv_file.specs.Words.{BeginWith}
use Rattle.theory.specs.RuleNames.{premises_of}
use Rattle.std.proofs.lemmas.Bool.{false≢true}
use Rattle.deriv_file.proofs.RowLaws.{node_row, same_rest}
use Rattle.deriv_file.proofs.line.node.Goals as goal

pub returns-in_default-2 : goal.returns-in_default-2
returns-in_default-2 c = λ row e stands.
    let named = c.in-Some-rule_of.ensures.some in
    let node = node_row c.args.place.version c.args.place.at c.args.words.now c.take.new.self c.in-Some.name.now c.in-Some-rule_of.rule c.count_parts.result (premises_of c.in-Some-rule_of.rule) c.in-Some.ensures named.0 c.count_parts.ensures refl row e stands in
    let none = rw c.in_default-2.is at c.in_ok-parts.ensures.none in
    none node.0 (map decimal node.1) node.3

pub returns-in_default-3 : goal.returns-in_default-3
returns-in_default-3 c = λ row e stands.
    let named = c.in-Some-rule_of.ensures.some in
    let node = node_row c.args.place.version c.args.place.at c.args.words.now c.take.new.self c.in-Some.name.now c.in-Some-rule_of.rule c.count_parts.result c.count_premises.result c.in-Some.ensures named.0 c.count_parts.ensures c.count_premises.ensures row e stands in
    let taken = rw c.in-Some-2.is at c.in_ok-parts.ensures.some in
    let rest = same_rest c.take.new.self c.count_parts.result c.args.place.at c.in-Some-2.parts node.0 c.numbers.new.self (map decimal node.1) taken node.3 in
    let none = rw c.in_default-3.is at c.in_ok-premises.ensures.none in
    none node.1 [] (subst (λ words. BeginWith words c.count_premises.result c.args.place.at node.1 []) (sym rest) node.4)

pub returns-then-not-is_empty : goal.returns-then-not-is_empty
returns-then-not-is_empty c = λ row e stands.
    let named = c.in-Some-rule_of.ensures.some in
    let node = node_row c.args.place.version c.args.place.at c.args.words.now c.take.new.self c.in-Some.name.now c.in-Some-rule_of.rule c.count_parts.result c.count_premises.result c.in-Some.ensures named.0 c.count_parts.ensures c.count_premises.ensures row e stands in
    let taken = rw c.in-Some-2.is at c.in_ok-parts.ensures.some in
    let rest = same_rest c.take.new.self c.count_parts.result c.args.place.at c.in-Some-2.parts node.0 c.numbers.new.self (map decimal node.1) taken node.3 in
    let also = rw c.in-Some-3.is at c.in_ok-premises.ensures.some in
    let again = subst (λ words. BeginWith words c.count_premises.result c.args.place.at node.1 []) (sym rest) node.4 in
    let done = same_rest c.numbers.new.self c.count_premises.result c.args.place.at c.in-Some-3.premises node.1 c.numbers-2.new.self [] also again in
    false≢true (c.if-not-is_empty.ensures.1 done)
