use Rattle.std.proofs.Common.{[], ◌∷◌, refl, sym, subst, arith}
use Rattle.trees.specs.Trees.{push, id}
use Rattle.trees.specs.Judgements.{WithName}
use Rattle.translation.specs.Terms.{i1}
use Rattle.direct.specs.Literal.{at}
use Rattle.typed_nodes.specs.declared.types.TypeAt.{TypeAt}
use Rattle.typed_nodes.specs.Typed.{IsTypeAt}
use Rattle.typed_nodes.proofs.GrowthLaws.{says_later}
use Rattle.typed_contexts.proofs.GrowthLaws.{further}
use Rattle.typing_tasks.specs.States.{place, with_found}
use Rattle.typing_steps.specs.Steps.{IsState}
use Rattle.typing_steps.proofs.GrowthLaws.{state_later}
use Rattle.typing_steps.proofs.Planning.{leaves, run_one}
use Rattle.typing_tasks.specs.declared.tasks.Task.TheVariants as task
use Rattle.typing_tasks.specs.declared.tasks.Lining.TheVariants as lining
use Rattle.typing_steps.proofs.state.CheckState.right_end.Goals as goal

pub take_node-left-requires : goal.take_node-left-requires
take_node-left-requires c =
    let (S, M, is, does) = c.requires in
    let (L, u, js, found, made) = does in
    (c.args.book.now, S, _, _, is, found)

pub last_node-requires : goal.last_node-requires
last_node-requires c =
    let (S, M, is, does) = c.requires in
    let (L, u, js, found, made) = does in
    let (left, one) = c.take_node-left.ensures c.args.book.now S _ _ is found in
    (c.args.book.now, _, _, _, one, refl)

pub as_type-requires : goal.as_type-requires
as_type-requires c =
    let (S, M, is, does) = c.requires in
    let (L, u, js, found, made) = does in
    let (left, one) = c.take_node-left.ensures c.args.book.now S _ _ is found in
    (WithName (place S), L, c.last_node.ensures c.args.book.now _ _ _ one refl)

pub line_ends-requires : goal.line_ends-requires
line_ends-requires c =
    let (S, M, is, does) = c.requires in
    let (L, u, js, found, made) = does in
    let (left, one) = c.take_node-left.ensures c.args.book.now S _ _ is found in
    let again = c.in_ok-found.ensures c.as_type.new.book _ _ (state_later c.in_ok-ty.ensures.extends _ _ one) (says_later _ _ _ _ c.in_ok-ty.ensures.extends left) in
    (place S, c.ctx.ensures c.as_type.new.book _ again)

pub returns-clause-steps : goal.returns-clause-steps
returns-clause-steps c = λ S M is (L, u, js, found, made).
    let (left, one) = c.take_node-left.ensures c.args.book.now S _ _ is found in
    let type = c.in_ok-ty.ensures.typed (WithName (place S)) L (c.last_node.ensures c.args.book.now _ _ _ one refl) in
    let again = c.in_ok-found.ensures c.as_type.new.book _ _ (state_later c.in_ok-ty.ensures.extends _ _ one) (says_later _ _ _ _ c.in_ok-ty.ensures.extends left) in
    let state : IsState c.as_type.new.book c.found.new.self S = subst (λ xs. IsState c.as_type.new.book c.found.new.self (with_found xs S)) (sym found) again in
    let ends = c.in_ok-sub.ensures.typed (place S) (c.ctx.ensures c.as_type.new.book S state) in
    let (moved, planned) = c.in_ok-plan.ensures in
    let at_end : TypeAt = record { ty = c.in_ok-ty.ty; sub = c.in_ok-sub.sub } in
    let is_type : IsTypeAt c.line_ends.new.book at_end (place S) (at L i1) = record { home = WithName (place S); tree = L; sub = push id i1; type_is = says_later _ _ _ _ c.in_ok-sub.ensures.extends type; sub_is = ends.1; is = refl } in
    leaves _ c.found.new.self c.args.tasks.now c.plan.new.self (task.Lining (lining.Right c.args.code c.args.sort)) _ M S (task.Check c.args.code at_end ∷ []) moved (state_later c.in_ok-sub.ensures.extends c.found.new.self S state) planned (omega arith)
    (run_one _ S M (task.Check c.args.code at_end) (at L i1, is_type, made))

pub returns-in_err-sub-clause-extends : goal.returns-in_err-sub-clause-extends
returns-in_err-sub-clause-extends c = further c.in_ok-ty.ensures.extends c.line_ends.ensures.extends

pub returns-in_err-plan-clause-extends : goal.returns-in_err-plan-clause-extends
returns-in_err-plan-clause-extends c = further c.in_ok-ty.ensures.extends c.in_ok-sub.ensures.extends

pub returns-clause-extends : goal.returns-clause-extends
returns-clause-extends c = further c.in_ok-ty.ensures.extends c.in_ok-sub.ensures.extends
