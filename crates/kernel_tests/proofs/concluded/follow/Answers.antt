use Rattle.std.proofs.Common.{◌∙◌, ap, take, length, arith}
use Rattle.book.proofs.TestLaws.{follows-within, follows-along, follows-shifts}
use Rattle.kernel_tests.proofs.concluded.follow.Goals as goal

pub split_at-requires : goal.split_at-requires
split_at-requires g c =
    let b = c.args.book.now in
    let within = follows-within b c.args.rule c.args.count c.args.premise.0 c.requires.0 c.requires.1 c.conclusion.result c.conclusion.ensures in
    omega (arith, ap length (c.as_slice.ensures ∙ c.rows-rows.ensures), within)

pub conclude-requires-clause-right : goal.conclude-requires-clause-right
conclude-requires-clause-right g c =
    let b = c.args.book.now in
    let are = c.of.ensures ∙ c.split_at.ensures.front ∙ ap (take c.args.count) (c.as_slice.ensures ∙ c.rows-rows.ensures) in
    (c.requires.0, follows-along b c.args.rule c.args.count c.args.premise.0 c.requires.0 c.requires.1 c.conclusion.result c.conclusion.ensures c.of.result are c.of-2.result c.of-2.ensures)

pub conclude-requires-clause-shifts : goal.conclude-requires-clause-shifts
conclude-requires-clause-shifts g c =
    let b = c.args.book.now in
    let are = c.of.ensures ∙ c.split_at.ensures.front ∙ ap (take c.args.count) (c.as_slice.ensures ∙ c.rows-rows.ensures) in
    follows-shifts b c.args.rule c.args.count c.args.premise.0 c.requires.0 c.requires.1 c.conclusion.result c.conclusion.ensures c.of.result are

pub returns-clause-concludes : goal.returns-clause-concludes
returns-clause-concludes g c = λ K u.
    let b = c.args.book.now in
    let are = c.of.ensures ∙ c.split_at.ensures.front ∙ ap (take c.args.count) (c.as_slice.ensures ∙ c.rows-rows.ensures) in
    c.in_ok-node.ensures.concludes K (follows-along b c.args.rule c.args.count c.args.premise.0 K u c.conclusion.result c.conclusion.ensures c.of.result are c.of-2.result c.of-2.ensures)
