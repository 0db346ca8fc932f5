use Rattle.trees.specs.Judgements.{WithVar}
use Rattle.trees.specs.Language.{Ty, Tm}
use Rattle.translation.specs.Terms.{lam, pi}
use Rattle.typed_nodes.proofs.GrowthLaws.{says_later}
use Rattle.typed_contexts.proofs.GrowthLaws.{further}
use Rattle.typing_tasks.specs.States.{place, place_of, inferring, with_found, with_inferred, with_known}
use Rattle.typing_steps.proofs.ClosingLaws.{head_taken}
use Rattle.typing_steps.proofs.GrowthLaws.{state_later}
use Rattle.typing_steps.proofs.state.CheckState.close_inferred.Goals as goal

pub take_head-body-requires : goal.take_head-body-requires
take_head-body-requires c =
    let (S, M, is, does) = c.requires in
    let (G, A, t, B, js, rs, known, found, last, made) = does in
    (c.args.book.now, S, record { context = place S; term = t; type = B }, rs, is, last)

pub take_node-domain-requires : goal.take_node-domain-requires
take_node-domain-requires c =
    let (S, M, is, does) = c.requires in
    let (G, A, t, B, js, rs, known, found, last, made) = does in
    let (head, left) = c.take_head-body.ensures c.args.book.now S (record { context = place S; term = t; type = B }) rs is last in
    (c.args.book.now, with_inferred rs S, Ty (place_of G) A, js, left, found)

pub node-requires : goal.node-requires
node-requires c =
    let (S, M, is, does) = c.requires in
    let (G, A, t, B, js, rs, known, found, last, made) = does in
    let (body, domain, before) = head_taken c.args.book.now c.args.self.now c.take_head-body.new.self c.take_node-domain.new.self c.leave.new.self
    c.take_head-body.result c.take_node-domain.result c.take_head-body.ensures c.take_node-domain.ensures c.leave.ensures S G A t B js rs is known found last in
    (WithVar (place_of G) A, B, body.type_at)

pub function-requires : goal.function-requires
function-requires c =
    let (S, M, is, does) = c.requires in
    let (G, A, t, B, js, rs, known, found, last, made) = does in
    let (body, domain, before) = head_taken c.args.book.now c.args.self.now c.take_head-body.new.self c.take_node-domain.new.self c.leave.new.self
    c.take_head-body.result c.take_node-domain.result c.take_head-body.ensures c.take_node-domain.ensures c.leave.ensures S G A t B js rs is known found last in
    let first = c.in_ok-codomain.ensures.extends in (
      place_of G,
      A,
      t,
      B,
      says_later _ _ c.take_node-domain.result (Ty (place_of G) A) first domain,
      says_later _ _ c.take_head-body.result.term (Tm (WithVar (place_of G) A) t B) first body.term_is,
    )

pub returns-in_err-term-clause-extends : goal.returns-in_err-term-clause-extends
returns-in_err-term-clause-extends c = further c.in_ok-codomain.ensures.extends c.function.ensures.extends

pub pi_type-requires : goal.pi_type-requires
pi_type-requires c =
    let (S, M, is, does) = c.requires in
    let (G, A, t, B, js, rs, known, found, last, made) = does in
    let (body, domain, before) = head_taken c.args.book.now c.args.self.now c.take_head-body.new.self c.take_node-domain.new.self c.leave.new.self
    c.take_head-body.result c.take_node-domain.result c.take_head-body.ensures c.take_node-domain.ensures c.leave.ensures S G A t B js rs is known found last in
    let first = c.in_ok-codomain.ensures.extends in
    let second = c.in_ok-term.ensures.extends in
    let codomain = says_later _ _ c.in_ok-codomain.codomain (Ty (WithVar (place_of G) A) B) second (c.in_ok-codomain.ensures.typed (WithVar (place_of G) A) B body.type_at) in
    let type = says_later _ _ c.take_node-domain.result (Ty (place_of G) A) (further first second) domain in
    (place_of G, A, B, type, codomain)

pub returns-in_err-ty-clause-extends : goal.returns-in_err-ty-clause-extends
returns-in_err-ty-clause-extends c = further c.in_ok-codomain.ensures.extends (further c.in_ok-term.ensures.extends c.pi_type.ensures.extends)

pub type_here-requires : goal.type_here-requires
type_here-requires c =
    let (S, M, is, does) = c.requires in
    let (G, A, t, B, js, rs, known, found, last, made) = does in
    let (body, domain, before) = head_taken c.args.book.now c.args.self.now c.take_head-body.new.self c.take_node-domain.new.self c.leave.new.self
    c.take_head-body.result c.take_node-domain.result c.take_head-body.ensures c.take_node-domain.ensures c.leave.ensures S G A t B js rs is known found last in
    let first = c.in_ok-codomain.ensures.extends in
    let second = c.in_ok-term.ensures.extends in
    let codomain = says_later _ _ c.in_ok-codomain.codomain (Ty (WithVar (place_of G) A) B) second (c.in_ok-codomain.ensures.typed (WithVar (place_of G) A) B body.type_at) in
    let type = says_later _ _ c.take_node-domain.result (Ty (place_of G) A) (further first second) domain in
    let T = with_known G (with_found js (with_inferred rs S)) in
    (T, pi A B, state_later (further first (further second c.in_ok-ty.ensures.extends)) c.leave.new.self T before, c.in_ok-ty.ensures.typed (place_of G) A B type codomain)

pub returns-in_err-ty-2-clause-extends : goal.returns-in_err-ty-2-clause-extends
returns-in_err-ty-2-clause-extends c =
    further c.in_ok-codomain.ensures.extends (further c.in_ok-term.ensures.extends (further c.in_ok-ty.ensures.extends c.type_here.ensures.extends))

pub returns-in_err-inferred-clause-extends : goal.returns-in_err-inferred-clause-extends
returns-in_err-inferred-clause-extends c =
    further c.in_ok-codomain.ensures.extends (further c.in_ok-term.ensures.extends (further c.in_ok-ty.ensures.extends c.in_ok-ty-2.ensures.extends))

pub returns-clause-extends : goal.returns-clause-extends
returns-clause-extends c =
    further c.in_ok-codomain.ensures.extends (further c.in_ok-term.ensures.extends (further c.in_ok-ty.ensures.extends c.in_ok-ty-2.ensures.extends))

pub returns-clause-closes : goal.returns-clause-closes
returns-clause-closes c = λ S M is (G, A, t, B, js, rs, known, found, last, made).
    let (body, domain, before) = head_taken c.args.book.now c.args.self.now c.take_head-body.new.self c.take_node-domain.new.self c.leave.new.self
    c.take_head-body.result c.take_node-domain.result c.take_head-body.ensures c.take_node-domain.ensures c.leave.ensures S G A t B js rs is known found last in
    let first = c.in_ok-codomain.ensures.extends in
    let second = c.in_ok-term.ensures.extends in
    let third = c.in_ok-ty.ensures.extends in
    let codomain = says_later _ _ c.in_ok-codomain.codomain (Ty (WithVar (place_of G) A) B) second (c.in_ok-codomain.ensures.typed (WithVar (place_of G) A) B body.type_at) in
    let type = says_later _ _ c.take_node-domain.result (Ty (place_of G) A) (further first second) domain in
    let T = with_known G (with_found js (with_inferred rs S)) in
    let term = c.in_ok-term.ensures.typed (place_of G) A t B (says_later _ _ c.take_node-domain.result (Ty (place_of G) A) first domain)
    (says_later _ _ c.take_head-body.result.term (Tm (WithVar (place_of G) A) t B) first body.term_is) in
    let formed = state_later (further first (further second third)) c.leave.new.self T before in
    let there = state_later c.in_ok-ty-2.ensures.extends _ _ formed in (
      inferring (lam A t) (pi A B) T,
      c.in_ok-inferred.ensures c.type_here.new.book T (lam A t) (pi A B) there (record {
        term_is = says_later _ _ c.in_ok-term.term (Tm (place_of G) (lam A t) (pi A B)) (further third c.in_ok-ty-2.ensures.extends) term;
        type_at = c.in_ok-ty-2.ensures.here T (pi A B) formed (c.in_ok-ty.ensures.typed (place_of G) A B type codomain);
      }),
      made,
    )
