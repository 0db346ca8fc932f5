use Rattle.std.proofs.Common.{◌≡◌, ◌∙◌, length, take, refl, ap, arith}
use Rattle.std.proofs.lemmas.List.{length-take-le}
use Rattle.theory.specs.declared.rule.RuleName.TheVariants.{Naturals}
use Rattle.theory.specs.declared.rule.NatRule.TheVariants.{Suc}
use Rattle.trees.specs.Judgements.{trees}
use Rattle.rules.specs.Table.{suc}
use Rattle.book.specs.Tests.{things_in}
use Rattle.book.proofs.BookLaws.{node-there}
use Rattle.book.proofs.TestLaws.{suc-follows, follows-along, follows-shifts}
use Rattle.book_tests.specs.Stated.{number_said, of_variables}
use Rattle.book_tests.proofs.RunLaws.{claim-places}
use Rattle.book_tests.proofs.growth.next.Goals as goal

pub conclusion-requires : goal.conclusion-requires
conclusion-requires c = node-there c.args.book.now c.args.number.0 (number_said c.requires.0) c.requires.1

pub split_at-requires : goal.split_at-requires
split_at-requires c =
    let three : length (things_in (number_said c.requires.0)) ≡ 3 = refl in
    omega (arith, three, claim-places c.args.book.now c.conclusion.result (number_said c.requires.0) (c.conclusion.ensures ∙ c.requires.1), ap length (c.as_slice.ensures ∙ c.rows-rows.ensures))

pub of-requires : goal.of-requires
of-requires c = omega (arith, ap length c.split_at.ensures.front, length-take-le 2 c.as_slice.result.now)

pub conclude-requires-clause-right : goal.conclude-requires-clause-right
conclude-requires-clause-right c =
    let b = c.args.book.now in
    let t = c.requires.0 in
    let K = number_said (suc trees t) in
    let u = suc-follows b c.args.number.0 (of_variables trees) t c.requires.1 in
    (K, follows-along b (Naturals Suc) 2 c.args.number.0 K u c.conclusion.result c.conclusion.ensures c.of.result (c.of.ensures ∙ c.split_at.ensures.front ∙ ap (take 2) (c.as_slice.ensures ∙ c.rows-rows.ensures)) c.of-2.result c.of-2.ensures)

pub conclude-requires-clause-shifts : goal.conclude-requires-clause-shifts
conclude-requires-clause-shifts c =
    let b = c.args.book.now in
    let t = c.requires.0 in
    let u = suc-follows b c.args.number.0 (of_variables trees) t c.requires.1 in
    follows-shifts b (Naturals Suc) 2 c.args.number.0 (number_said (suc trees t)) u c.conclusion.result c.conclusion.ensures c.of.result (c.of.ensures ∙ c.split_at.ensures.front ∙ ap (take 2) (c.as_slice.ensures ∙ c.rows-rows.ensures))

pub returns : goal.returns
returns c =
    let b = c.args.book.now in
    let t = c.requires.0 in
    let K = number_said (suc trees t) in
    let u = suc-follows b c.args.number.0 (of_variables trees) t c.requires.1 in
    (suc trees t, c.in_ok-conclude.ensures.concludes K (follows-along b (Naturals Suc) 2 c.args.number.0 K u c.conclusion.result c.conclusion.ensures c.of.result (c.of.ensures ∙ c.split_at.ensures.front ∙ ap (take 2) (c.as_slice.ensures ∙ c.rows-rows.ensures)) c.of-2.result c.of-2.ensures))
