use Rattle.trees.specs.Language.{Tm}
use Rattle.translation.specs.Terms.{pi, app}
use Rattle.direct.specs.Literal.{at}
use Rattle.typing_tasks.specs.States.{State, place, with_found, with_inferred, inferring}
use Rattle.typing_steps.proofs.GrowthLaws.{state_later}
use Rattle.typing_steps.proofs.HeadLaws.{takes_last}
use Rattle.typing_steps.proofs.state.CheckState.apply.Goals as goal

pub take_node-argument-requires : goal.take_node-argument-requires
take_node-argument-requires c =
    let (S, M, is, does) = c.requires in
    let (A, B, t, a, js, rs, family, last, found, e) = does in
    (c.args.book.now, S, Tm (place S) a A, js, is, found)

pub take_head-head-requires : goal.take_head-head-requires
take_head-head-requires c =
    let (S, M, is, does) = c.requires in
    let (A, B, t, a, js, rs, family, last, found, e) = does in
    let (argument, left) = c.take_node-argument.ensures c.args.book.now S (Tm (place S) a A) js is found in
    (c.args.book.now, with_found js S, record { context = place S; term = t; type = pi A B }, rs, left, last)

pub applied-requires : goal.applied-requires
applied-requires c =
    let (S, M, is, does) = c.requires in
    let (A, B, t, a, js, rs, family, last, found, e) = does in
    let (argument, left) = c.take_node-argument.ensures c.args.book.now S (Tm (place S) a A) js is found in
    let (head, here) = takes_last _ _ _ c.take_head-head.ensures c.args.book.now (with_found js S) t (pi A B) rs left last in
    (place S, A, B, t, a, family, head.term_is, argument)

pub returns-clause-done : goal.returns-clause-done
returns-clause-done c =
    λ S M is does.
    let (A, B, t, a, js, rs, family, last, found, e) = does in
    let (argument, left) = c.take_node-argument.ensures c.args.book.now S (Tm (place S) a A) js is found in
    let (head, here) = takes_last _ _ _ c.take_head-head.ensures c.args.book.now (with_found js S) t (pi A B) rs left last in
    let T : State = with_inferred rs (with_found js S) in
    let typed = c.in_ok-head.ensures.typed (place S) A B t a family head.term_is argument in
    (inferring (app t a) (at B a) T, c.in_ok-inferred.ensures c.applied.new.book T (app t a) (at B a) (state_later c.applied.ensures.extends c.take_head-head.new.self T here) typed, e)
