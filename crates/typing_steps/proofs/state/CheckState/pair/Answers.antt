use Rattle.std.proofs.Common.{◌∷◌, refl}
use Rattle.trees.specs.Language.{Tm}
use Rattle.translation.specs.Terms.{pair, sig}
use Rattle.direct.specs.Literal.{at}
use Rattle.typing_tasks.specs.States.{State, place, with_found, finding}
use Rattle.typing_steps.proofs.GrowthLaws.{state_later}
use Rattle.typing_steps.proofs.state.CheckState.pair.Goals as goal

pub take_node-second-requires : goal.take_node-second-requires
take_node-second-requires c =
    let (S, M, is, does) = c.requires in let (A, B, a, t, js, family, found, e) = does in (c.args.book.now, S, Tm (place S) t (at B a), Tm (place S) a A ∷ js, is, found)

pub take_node-first-requires : goal.take_node-first-requires
take_node-first-requires c =
    let (S, M, is, does) = c.requires in let (A, B, a, t, js, family, found, e) = does in
    let (second, left) = c.take_node-second.ensures c.args.book.now S (Tm (place S) t (at B a)) (Tm (place S) a A ∷ js) is found in
    (c.args.book.now, with_found (Tm (place S) a A ∷ js) S, Tm (place S) a A, js, left, refl)

pub paired-requires : goal.paired-requires
paired-requires c =
    let (S, M, is, does) = c.requires in let (A, B, a, t, js, family, found, e) = does in
    let (second, left) = c.take_node-second.ensures c.args.book.now S (Tm (place S) t (at B a)) (Tm (place S) a A ∷ js) is found in
    let (first, here) = c.take_node-first.ensures c.args.book.now (with_found (Tm (place S) a A ∷ js) S) (Tm (place S) a A) js left refl in
    (place S, A, B, a, t, family, first, second)

pub returns-clause-done : goal.returns-clause-done
returns-clause-done c =
    λ S M is does.
    let (A, B, a, t, js, family, found, e) = does in
    let (second, left) = c.take_node-second.ensures c.args.book.now S (Tm (place S) t (at B a)) (Tm (place S) a A ∷ js) is found in
    let (first, here) = c.take_node-first.ensures c.args.book.now (with_found (Tm (place S) a A ∷ js) S) (Tm (place S) a A) js left refl in
    let T : State = with_found js S in
    let node = c.in_ok-node.ensures.typed (place S) A B a t family first second in
    (finding (Tm (place S) (pair a t) (sig A B)) T, c.in_ok-found.ensures c.paired.new.book T (Tm (place S) (pair a t) (sig A B)) (state_later c.paired.ensures.extends c.take_node-first.new.self T here) node, e)
