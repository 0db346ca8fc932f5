use Rattle.translation.specs.Terms.{universe}
use Rattle.typed_nodes.specs.Typed.{IsTyped}
use Rattle.typed_nodes.proofs.GrowthLaws.{says_later}
use Rattle.typing_tasks.specs.States.{place, inferring, with_found}
use Rattle.typing_steps.proofs.GrowthLaws.{state_later}
use Rattle.typing_steps.proofs.state.CheckState.small.Goals as goal

pub take_node-term-requires : goal.take_node-term-requires
take_node-term-requires c =
    let (S, M, is, does) = c.requires in
    let (a, js, found, made) = does in
    (c.args.book.now, S, _, js, is, found)

pub universe-requires : goal.universe-requires
universe-requires c =
    let (S, M, is, does) = c.requires in
    let (a, js, found, made) = does in
    let (says, state) = c.take_node-term.ensures c.args.book.now S _ js is found in
    (with_found js S, state)

pub returns-clause-done : goal.returns-clause-done
returns-clause-done c = λ S M is (a, js, found, made).
    let (says, state) = c.take_node-term.ensures c.args.book.now S _ js is found in
    let later = state_later c.in_ok-ty.ensures.extends _ _ state in
    let ty = c.in_ok-ty.ensures.here (with_found js S) state in
    let typed : IsTyped c.universe.new.book (record { term = c.take_node-term.result; ty = c.in_ok-ty.ty }) (place S) a universe = record { term_is = says_later _ _ _ _ c.in_ok-ty.ensures.extends says; type_at = ty } in
    (inferring a universe (with_found js S), c.in_ok-inferred.ensures c.universe.new.book (with_found js S) a universe later typed, made)
