use Rattle.trees.specs.Language.{Tm}
use Rattle.translation.specs.Terms.{nat, suc}
use Rattle.typed_nodes.proofs.GrowthLaws.{says_later}
use Rattle.typed_contexts.proofs.GrowthLaws.{further}
use Rattle.typing_tasks.specs.States.{State, place, with_found, inferring}
use Rattle.typing_steps.proofs.GrowthLaws.{state_later}
use Rattle.typing_steps.proofs.state.CheckState.successor_of.Goals as goal

pub take_node-number-requires : goal.take_node-number-requires
take_node-number-requires c =
    let (S, M, is, does) = c.requires in
    let (n, js, found, e) = does in
    (c.args.book.now, S, Tm (place S) n nat, js, is, found)

pub successor-requires : goal.successor-requires
successor-requires c =
    let (S, M, is, does) = c.requires in
    let (n, js, found, e) = does in
    let (number, left) = c.take_node-number.ensures c.args.book.now S (Tm (place S) n nat) js is found in
    (place S, n, number)

pub numbers-requires : goal.numbers-requires
numbers-requires c =
    let (S, M, is, does) = c.requires in
    let (n, js, found, e) = does in
    let (number, left) = c.take_node-number.ensures c.args.book.now S (Tm (place S) n nat) js is found in
    (with_found js S, state_later c.successor.ensures.extends c.take_node-number.new.self (with_found js S) left)

pub returns-in_err-ty-clause-extends : goal.returns-in_err-ty-clause-extends
returns-in_err-ty-clause-extends c = further c.successor.ensures.extends c.numbers.ensures.extends

pub returns-in_err-inferred-clause-extends : goal.returns-in_err-inferred-clause-extends
returns-in_err-inferred-clause-extends c = further c.successor.ensures.extends c.numbers.ensures.extends

pub returns-clause-extends : goal.returns-clause-extends
returns-clause-extends c = further c.successor.ensures.extends c.numbers.ensures.extends

pub returns-clause-done : goal.returns-clause-done
returns-clause-done c =
    λ S M is does.
    let (n, js, found, e) = does in
    let (number, left) = c.take_node-number.ensures c.args.book.now S (Tm (place S) n nat) js is found in
    let T : State = with_found js S in
    let before = state_later c.successor.ensures.extends c.take_node-number.new.self T left in
    let state = state_later c.numbers.ensures.extends _ _ before in
    let type = c.in_ok-ty.ensures.here T before in
    let node = says_later c.successor.new.book c.numbers.new.book c.in_ok-term.term (Tm (place S) (suc n) nat) c.numbers.ensures.extends (c.in_ok-term.ensures.typed (place S) n number) in
    (inferring (suc n) nat T, c.in_ok-inferred.ensures c.numbers.new.book T (suc n) nat state (record { term_is = node; type_at = type }), e)
