use Rattle.std.proofs.Common.{refl}
use Rattle.translation.specs.Terms.{natrec}
use Rattle.direct.specs.Literal.{at}
use Rattle.typing_tasks.specs.States.{place, inferring, with_found}
use Rattle.typing_steps.proofs.GrowthLaws.{state_later}
use Rattle.typing_steps.proofs.state.CheckState.close_recursion.Goals as goal

pub take_node-number-requires : goal.take_node-number-requires
take_node-number-requires c =
    let (S, M, is, does) = c.requires in
    let (P, a, s, n, js, found, made) = does in
    (c.args.book.now, S, _, _, is, found)

pub take_node-step-requires : goal.take_node-step-requires
take_node-step-requires c =
    let (S, M, is, does) = c.requires in
    let (P, a, s, n, js, found, made) = does in
    let (number, one) = c.take_node-number.ensures c.args.book.now S _ _ is found in
    (c.args.book.now, _, _, _, one, refl)

pub take_node-base-requires : goal.take_node-base-requires
take_node-base-requires c =
    let (S, M, is, does) = c.requires in
    let (P, a, s, n, js, found, made) = does in
    let (number, one) = c.take_node-number.ensures c.args.book.now S _ _ is found in
    let (step, two) = c.take_node-step.ensures c.args.book.now _ _ _ one refl in
    (c.args.book.now, _, _, _, two, refl)

pub take_node-motive-requires : goal.take_node-motive-requires
take_node-motive-requires c =
    let (S, M, is, does) = c.requires in
    let (P, a, s, n, js, found, made) = does in
    let (number, one) = c.take_node-number.ensures c.args.book.now S _ _ is found in
    let (step, two) = c.take_node-step.ensures c.args.book.now _ _ _ one refl in
    let (base, three) = c.take_node-base.ensures c.args.book.now _ _ _ two refl in
    (c.args.book.now, _, _, _, three, refl)

pub recursion-requires : goal.recursion-requires
recursion-requires c =
    let (S, M, is, does) = c.requires in
    let (P, a, s, n, js, found, made) = does in
    let (number, one) = c.take_node-number.ensures c.args.book.now S _ _ is found in
    let (step, two) = c.take_node-step.ensures c.args.book.now _ _ _ one refl in
    let (base, three) = c.take_node-base.ensures c.args.book.now _ _ _ two refl in
    let (motive, four) = c.take_node-motive.ensures c.args.book.now _ _ _ three refl in
    (place S, P, a, s, n, c.ctx.ensures c.args.book.now _ four, motive, base, step, number)

pub returns-clause-done : goal.returns-clause-done
returns-clause-done c = λ S M is (P, a, s, n, js, found, made).
    let (number, one) = c.take_node-number.ensures c.args.book.now S _ _ is found in
    let (step, two) = c.take_node-step.ensures c.args.book.now _ _ _ one refl in
    let (base, three) = c.take_node-base.ensures c.args.book.now _ _ _ two refl in
    let (motive, four) = c.take_node-motive.ensures c.args.book.now _ _ _ three refl in
    let typed = c.in_ok-head.ensures.typed (place S) P a s n (c.ctx.ensures c.args.book.now _ four) motive base step number in
    let later = state_later c.in_ok-head.ensures.extends _ _ four in
    (inferring (natrec P a s n) (at P n) (with_found js S), c.in_ok-inferred.ensures c.recursion.new.book (with_found js S) _ _ later typed, made)
