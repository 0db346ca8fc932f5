use Rattle.std.proofs.Common.{refl}
use Rattle.translation.specs.Terms.{comp, f0, empty, i1}
use Rattle.direct.specs.Literal.{at}
use Rattle.typing_tasks.specs.States.{place, inferring, with_found}
use Rattle.typing_steps.proofs.GrowthLaws.{state_later}
use Rattle.typing_steps.proofs.state.CheckState.transport.Goals as goal

pub take_node-base-requires : goal.take_node-base-requires
take_node-base-requires c =
    let (S, M, is, does) = c.requires in
    let (L, a, js, found, made) = does in
    (c.args.book.now, S, _, _, is, found)

pub take_node-line-requires : goal.take_node-line-requires
take_node-line-requires c =
    let (S, M, is, does) = c.requires in
    let (L, a, js, found, made) = does in
    let (base, one) = c.take_node-base.ensures c.args.book.now S _ _ is found in
    (c.args.book.now, _, _, _, one, refl)

pub transported-requires : goal.transported-requires
transported-requires c =
    let (S, M, is, does) = c.requires in
    let (L, a, js, found, made) = does in
    let (base, one) = c.take_node-base.ensures c.args.book.now S _ _ is found in
    let (line, two) = c.take_node-line.ensures c.args.book.now _ _ _ one refl in
    (place S, L, a, c.ctx.ensures c.args.book.now _ two, line, base)

pub returns-clause-done : goal.returns-clause-done
returns-clause-done c = λ S M is (L, a, js, found, made).
    let (base, one) = c.take_node-base.ensures c.args.book.now S _ _ is found in
    let (line, two) = c.take_node-line.ensures c.args.book.now _ _ _ one refl in
    let typed = c.in_ok-head.ensures.typed (place S) L a (c.ctx.ensures c.args.book.now _ two) line base in
    let later = state_later c.in_ok-head.ensures.extends _ _ two in
    (inferring (comp L f0 empty a) (at L i1) (with_found js S), c.in_ok-inferred.ensures c.transported.new.book (with_found js S) _ _ later typed, made)
