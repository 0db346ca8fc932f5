use Rattle.std.proofs.Common.{◌≡◌, sym, subst}
use Rattle.trees.specs.Language.{Tm}
use Rattle.translation.specs.Terms.{pathp, plam, i0, i1}
use Rattle.direct.specs.Literal.{at}
use Rattle.typed_nodes.specs.Typed.{Says}
use Rattle.typed_nodes.proofs.GrowthLaws.{says_later, type_at_later}
use Rattle.typed_contexts.proofs.GrowthLaws.{further}
use Rattle.typing_tasks.specs.States.{State, place, place_of, with_known, with_found, finding}
use Rattle.typing_steps.proofs.GrowthLaws.{state_later}
use Rattle.typing_steps.proofs.PairLaws.{left_name, closed_same, closed_other}
use Rattle.typing_steps.proofs.state.CheckState.close_name.Goals as goal

pub take_node-body-requires : goal.take_node-body-requires
take_node-body-requires c =
    let (S, M, is, does) = c.requires in
    let (G, L, u, v, t, js, type, known, found, e) = does in
    (c.args.book.now, S, Tm (place S) t L, js, is, found)

pub path-requires : goal.path-requires
path-requires c =
    let (S, M, is, does) = c.requires in
    let (G, L, u, v, t, js, type, known, found, e) = does in
    let (body, here) = left_name c.args.book.now c.args.self.now c.take_node-body.new.self c.leave.new.self c.take_node-body.result S G L t js c.take_node-body.ensures c.leave.ensures is known found in
    (place_of G, L, t, c.ctx.ensures c.args.book.now (with_known G (with_found js S)) here, body)

pub type_row-requires : goal.type_row-requires
type_row-requires c =
    let (S, M, is, does) = c.requires in
    let (G, L, u, v, t, js, type, known, found, e) = does in
    let (body, here) = left_name c.args.book.now c.args.self.now c.take_node-body.new.self c.leave.new.self c.take_node-body.result S G L t js c.take_node-body.ensures c.leave.ensures is known found in
    (place_of G, plam t, pathp L (at t i0) (at t i1), c.in_ok-node.ensures.typed (place_of G) L t (c.ctx.ensures c.args.book.now (with_known G (with_found js S)) here) body)

pub is_row-requires : goal.is_row-requires
is_row-requires c =
    let (S, M, is, does) = c.requires in
    let (G, L, u, v, t, js, type, known, found, e) = does in
    let (body, here) = left_name c.args.book.now c.args.self.now c.take_node-body.new.self c.leave.new.self c.take_node-body.result S G L t js c.take_node-body.ensures c.leave.ensures is known found in
    let node = c.in_ok-node.ensures.typed (place_of G) L t (c.ctx.ensures c.args.book.now (with_known G (with_found js S)) here) body in
    (place_of G, pathp L u v, pathp L (at t i0) (at t i1), type_at_later c.args.book.now c.path.new.book c.args.ty (place_of G) (pathp L u v) c.path.ensures.extends type, c.type_row.ensures (place_of G) (plam t) (pathp L (at t i0) (at t i1)) node)

pub returns-in_err-is_row-clause-extends : goal.returns-in_err-is_row-clause-extends
returns-in_err-is_row-clause-extends c = further c.path.ensures.extends c.is_row.ensures.extends

pub returns-then-not-branch-clause-extends : goal.returns-then-not-branch-clause-extends
returns-then-not-branch-clause-extends c = further c.path.ensures.extends c.is_row.ensures.extends

pub returns-then-not-branch-clause-done : goal.returns-then-not-branch-clause-done
returns-then-not-branch-clause-done c =
    λ S M is does.
    let (G, L, u, v, t, js, type, known, found, e) = does in
    let (body, here) = left_name c.args.book.now c.args.self.now c.take_node-body.new.self c.leave.new.self c.take_node-body.result S G L t js c.take_node-body.ensures c.leave.ensures is known found in
    let node = c.in_ok-node.ensures.typed (place_of G) L t (c.ctx.ensures c.args.book.now (with_known G (with_found js S)) here) body in
    let agree = c.in_ok-is_row.ensures.same (place_of G) (pathp L u v) (pathp L (at t i0) (at t i1)) (type_at_later c.args.book.now c.path.new.book c.args.ty (place_of G) (pathp L u v) c.path.ensures.extends type) (c.type_row.ensures (place_of G) (plam t) (pathp L (at t i0) (at t i1)) node) in
    closed_other L u v t _ M e c.in_ok-is_row.field-0 c.if-not-branch.true agree

pub returns-in_err-found-clause-extends : goal.returns-in_err-found-clause-extends
returns-in_err-found-clause-extends c = further c.path.ensures.extends c.is_row.ensures.extends

pub returns-clause-extends : goal.returns-clause-extends
returns-clause-extends c = further c.path.ensures.extends c.is_row.ensures.extends

pub returns-clause-done : goal.returns-clause-done
returns-clause-done c =
    λ S M is does.
    let (G, L, u, v, t, js, type, known, found, e) = does in
    let (body, here) = left_name c.args.book.now c.args.self.now c.take_node-body.new.self c.leave.new.self c.take_node-body.result S G L t js c.take_node-body.ensures c.leave.ensures is known found in
    let node = c.in_ok-node.ensures.typed (place_of G) L t (c.ctx.ensures c.args.book.now (with_known G (with_found js S)) here) body in
    let agree = c.in_ok-is_row.ensures.same (place_of G) (pathp L u v) (pathp L (at t i0) (at t i1)) (type_at_later c.args.book.now c.path.new.book c.args.ty (place_of G) (pathp L u v) c.path.ensures.extends type) (c.type_row.ensures (place_of G) (plam t) (pathp L (at t i0) (at t i1)) node) in
    let T : State = with_known G (with_found js S) in
    let same : pathp L u v ≡ pathp L (at t i0) (at t i1) = agree.0 c.if-not-branch.false in
    let typed = says_later c.path.new.book c.is_row.new.book c.in_ok-node.node (Tm (place_of G) (plam t) (pathp L u v)) c.is_row.ensures.extends (subst (λ W. Says c.path.new.book c.in_ok-node.node (Tm (place_of G) (plam t) W)) (sym same) node) in (
      finding (Tm (place_of G) (plam t) (pathp L u v)) T,
      c.in_ok-found.ensures c.is_row.new.book T (Tm (place_of G) (plam t) (pathp L u v)) (state_later (further c.path.ensures.extends c.is_row.ensures.extends) c.leave.new.self T here) typed,
      closed_same L u v t _ M e same,
    )
