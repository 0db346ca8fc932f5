use Rattle.std.proofs.Common.{◌∷◌, refl, ap, subst}
use Rattle.trees.specs.Judgements.{WithVar}
use Rattle.trees.specs.Language.{Ty, Tm}
use Rattle.translation.specs.Terms.{lam, pi}
use Rattle.typed_nodes.specs.Typed.{Says}
use Rattle.typed_nodes.proofs.GrowthLaws.{says_later}
use Rattle.typed_contexts.proofs.GrowthLaws.{further}
use Rattle.typing_tasks.specs.States.{place, place_of, finding, with_found, with_known}
use Rattle.typing_steps.proofs.ClosingLaws.{two_taken}
use Rattle.typing_steps.proofs.GrowthLaws.{state_later}
use Rattle.typing_steps.proofs.state.CheckState.close_stated.Goals as goal

pub take_node-body-requires : goal.take_node-body-requires
take_node-body-requires c =
    let (S, M, is, does) = c.requires in
    let (G, A, t, B, js, known, found, made) = does in
    (c.args.book.now, S, Tm (place S) t B, Ty (place S) B ∷ Ty (place_of G) A ∷ js, is, found)

pub take_node-codomain-requires : goal.take_node-codomain-requires
take_node-codomain-requires c =
    let (S, M, is, does) = c.requires in
    let (G, A, t, B, js, known, found, made) = does in
    let (body, left) = c.take_node-body.ensures c.args.book.now S (Tm (place S) t B) (Ty (place S) B ∷ Ty (place_of G) A ∷ js) is found in
    (c.args.book.now, with_found (Ty (place S) B ∷ Ty (place_of G) A ∷ js) S, Ty (place S) B, Ty (place_of G) A ∷ js, left, refl)

pub take_node-domain-requires : goal.take_node-domain-requires
take_node-domain-requires c =
    let (S, M, is, does) = c.requires in
    let (G, A, t, B, js, known, found, made) = does in
    let (body, left) = c.take_node-body.ensures c.args.book.now S (Tm (place S) t B) (Ty (place S) B ∷ Ty (place_of G) A ∷ js) is found in
    let (codomain, one) = c.take_node-codomain.ensures c.args.book.now (with_found (Ty (place S) B ∷ Ty (place_of G) A ∷ js) S) (Ty (place S) B) (Ty (place_of G) A ∷ js) left refl in
    (c.args.book.now, with_found (Ty (place_of G) A ∷ js) S, Ty (place_of G) A, js, one, refl)

pub pi_type-requires : goal.pi_type-requires
pi_type-requires c =
    let (S, M, is, does) = c.requires in
    let (G, A, t, B, js, known, found, made) = does in
    let (over, left) = c.take_node-body.ensures c.args.book.now S (Tm (place S) t B) (Ty (place S) B ∷ Ty (place_of G) A ∷ js) is found in
    let (type, domain, before) = two_taken c.args.book.now c.take_node-body.new.self c.take_node-codomain.new.self c.take_node-domain.new.self c.leave.new.self
    c.take_node-codomain.result c.take_node-domain.result c.take_node-codomain.ensures c.take_node-domain.ensures c.leave.ensures
    (with_found (Ty (place S) B ∷ Ty (place_of G) A ∷ js) S) G A (Ty (place S) B) (Ty (place_of G) A) js left known refl in
    (place_of G, A, B, domain, subst (λ H. Says c.args.book.now c.take_node-codomain.result (Ty H B)) (ap place_of known) type)

pub function-requires : goal.function-requires
function-requires c =
    let (S, M, is, does) = c.requires in
    let (G, A, t, B, js, known, found, made) = does in
    let (over, left) = c.take_node-body.ensures c.args.book.now S (Tm (place S) t B) (Ty (place S) B ∷ Ty (place_of G) A ∷ js) is found in
    let (type, domain, before) = two_taken c.args.book.now c.take_node-body.new.self c.take_node-codomain.new.self c.take_node-domain.new.self c.leave.new.self
    c.take_node-codomain.result c.take_node-domain.result c.take_node-codomain.ensures c.take_node-domain.ensures c.leave.ensures
    (with_found (Ty (place S) B ∷ Ty (place_of G) A ∷ js) S) G A (Ty (place S) B) (Ty (place_of G) A) js left known refl in
    let grown = c.in_ok-ty.ensures.extends in
    let body = subst (λ H. Says c.args.book.now c.take_node-body.result (Tm H t B)) (ap place_of known) over in (
      place_of G,
      A,
      t,
      B,
      says_later _ _ c.take_node-domain.result (Ty (place_of G) A) grown domain,
      says_later _ _ c.take_node-body.result (Tm (WithVar (place_of G) A) t B) grown body,
    )

pub returns-in_err-body-clause-extends : goal.returns-in_err-body-clause-extends
returns-in_err-body-clause-extends c = further c.in_ok-ty.ensures.extends c.function.ensures.extends

pub returns-in_err-found-clause-extends : goal.returns-in_err-found-clause-extends
returns-in_err-found-clause-extends c = further c.in_ok-ty.ensures.extends c.in_ok-body.ensures.extends

pub returns-in_err-found-2-clause-extends : goal.returns-in_err-found-2-clause-extends
returns-in_err-found-2-clause-extends c = further c.in_ok-ty.ensures.extends c.in_ok-body.ensures.extends

pub returns-clause-extends : goal.returns-clause-extends
returns-clause-extends c = further c.in_ok-ty.ensures.extends c.in_ok-body.ensures.extends

pub returns-clause-closes : goal.returns-clause-closes
returns-clause-closes c = λ S M is (G, A, t, B, js, known, found, made).
    let (over, left) = c.take_node-body.ensures c.args.book.now S (Tm (place S) t B) (Ty (place S) B ∷ Ty (place_of G) A ∷ js) is found in
    let (type, domain, before) = two_taken c.args.book.now c.take_node-body.new.self c.take_node-codomain.new.self c.take_node-domain.new.self c.leave.new.self
    c.take_node-codomain.result c.take_node-domain.result c.take_node-codomain.ensures c.take_node-domain.ensures c.leave.ensures
    (with_found (Ty (place S) B ∷ Ty (place_of G) A ∷ js) S) G A (Ty (place S) B) (Ty (place_of G) A) js left known refl in
    let grown = c.in_ok-ty.ensures.extends in
    let later = c.in_ok-body.ensures.extends in
    let T = with_known G (with_found js S) in
    let J = Ty (place_of G) (pi A B) in
    let K = Tm (place_of G) (lam A t) (pi A B) in
    let codomain = subst (λ H. Says c.args.book.now c.take_node-codomain.result (Ty H B)) (ap place_of known) type in
    let body = subst (λ H. Says c.args.book.now c.take_node-body.result (Tm H t B)) (ap place_of known) over in
    let ty = c.in_ok-ty.ensures.typed (place_of G) A B domain codomain in
    let term = c.in_ok-body.ensures.typed (place_of G) A t B (says_later _ _ c.take_node-domain.result (Ty (place_of G) A) grown domain)
    (says_later _ _ c.take_node-body.result (Tm (WithVar (place_of G) A) t B) grown body) in
    let first = c.in_ok-found.ensures c.function.new.book T J (state_later (further grown later) c.leave.new.self T before) (says_later _ _ c.in_ok-ty.ty J later ty) in
    (finding K (finding J T), c.in_ok-found-2.ensures c.function.new.book (finding J T) K first term, made)
