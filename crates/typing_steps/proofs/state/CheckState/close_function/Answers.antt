use Rattle.std.proofs.Common.{◌∷◌, refl, ap, subst}
use Rattle.trees.specs.Language.{Ty, Tm}
use Rattle.translation.specs.Terms.{lam, pi}
use Rattle.typed_nodes.specs.Typed.{Says}
use Rattle.typing_tasks.specs.States.{place, place_of, finding, with_found, with_known}
use Rattle.typing_steps.proofs.ClosingLaws.{two_taken}
use Rattle.typing_steps.proofs.GrowthLaws.{state_later}
use Rattle.typing_steps.proofs.state.CheckState.close_function.Goals as goal

pub take_node-body-requires : goal.take_node-body-requires
take_node-body-requires c =
    let (S, M, is, does) = c.requires in
    let (G, A, t, B, js, known, found, made) = does in
    (c.args.book.now, S, Tm (place S) t B, Ty (place_of G) A ∷ js, is, found)

pub take_node-domain-requires : goal.take_node-domain-requires
take_node-domain-requires c =
    let (S, M, is, does) = c.requires in
    let (G, A, t, B, js, known, found, made) = does in
    let (over, left) = c.take_node-body.ensures c.args.book.now S (Tm (place S) t B) (Ty (place_of G) A ∷ js) is found in
    (c.args.book.now, with_found (Ty (place_of G) A ∷ js) S, Ty (place_of G) A, js, left, refl)

pub function-requires : goal.function-requires
function-requires c =
    let (S, M, is, does) = c.requires in
    let (G, A, t, B, js, known, found, made) = does in
    let (over, domain, before) = two_taken c.args.book.now c.args.self.now c.take_node-body.new.self c.take_node-domain.new.self c.leave.new.self
    c.take_node-body.result c.take_node-domain.result c.take_node-body.ensures c.take_node-domain.ensures c.leave.ensures
    S G A (Tm (place S) t B) (Ty (place_of G) A) js is known found in
    (place_of G, A, t, B, domain, subst (λ H. Says c.args.book.now c.take_node-body.result (Tm H t B)) (ap place_of known) over)

pub returns-clause-done : goal.returns-clause-done
returns-clause-done c = λ S M is (G, A, t, B, js, known, found, made).
    let (over, domain, before) = two_taken c.args.book.now c.args.self.now c.take_node-body.new.self c.take_node-domain.new.self c.leave.new.self
    c.take_node-body.result c.take_node-domain.result c.take_node-body.ensures c.take_node-domain.ensures c.leave.ensures
    S G A (Tm (place S) t B) (Ty (place_of G) A) js is known found in
    let body = subst (λ H. Says c.args.book.now c.take_node-body.result (Tm H t B)) (ap place_of known) over in
    let T = with_known G (with_found js S) in
    let J = Tm (place_of G) (lam A t) (pi A B) in (
      finding J T,
      c.in_ok-found.ensures c.function.new.book T J (state_later c.in_ok-node.ensures.extends c.leave.new.self T before)
          (c.in_ok-node.ensures.typed (place_of G) A t B domain body),
      made,
    )
