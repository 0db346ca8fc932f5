use Rattle.std.proofs.Common.{[], ◌∷◌, refl, sym, subst, arith}
use Rattle.direct.specs.Literal.{motive_step}
use Rattle.typed_nodes.proofs.GrowthLaws.{says_later}
use Rattle.typed_contexts.proofs.GrowthLaws.{further}
use Rattle.typing_tasks.specs.States.{place, with_found}
use Rattle.typing_steps.specs.Steps.{IsState}
use Rattle.typing_steps.proofs.GrowthLaws.{state_later}
use Rattle.typing_steps.proofs.Planning.{leaves, run_one}
use Rattle.typing_tasks.specs.declared.tasks.Task.TheVariants as task
use Rattle.typing_tasks.specs.declared.tasks.Recurring.TheVariants as recurring
use Rattle.typing_steps.proofs.state.CheckState.step_of.Goals as goal

pub take_node-base-requires : goal.take_node-base-requires
take_node-base-requires c =
    let (S, M, is, does) = c.requires in
    let (P, a, js, found, made) = does in
    (c.args.book.now, S, _, _, is, found)

pub last_node-requires : goal.last_node-requires
last_node-requires c =
    let (S, M, is, does) = c.requires in
    let (P, a, js, found, made) = does in
    let (base, one) = c.take_node-base.ensures c.args.book.now S _ _ is found in
    (c.args.book.now, _, _, _, one, refl)

pub motive_step-requires : goal.motive_step-requires
motive_step-requires c =
    let (S, M, is, does) = c.requires in
    let (P, a, js, found, made) = does in
    let (base, one) = c.take_node-base.ensures c.args.book.now S _ _ is found in
    (place S, P, c.ctx.ensures c.args.book.now _ one, c.last_node.ensures c.args.book.now _ _ _ one refl)

pub type_here-requires : goal.type_here-requires
type_here-requires c =
    let (S, M, is, does) = c.requires in
    let (P, a, js, found, made) = does in
    let (base, one) = c.take_node-base.ensures c.args.book.now S _ _ is found in
    let motive = c.last_node.ensures c.args.book.now _ _ _ one refl in
    let step = c.in_ok-ty.ensures.typed (place S) P (c.ctx.ensures c.args.book.now _ one) motive in
    let again = c.in_ok-found.ensures c.motive_step.new.book _ _ (state_later c.in_ok-ty.ensures.extends _ _ one) (says_later _ _ _ _ c.in_ok-ty.ensures.extends base) in
    (_, motive_step P, again, step)

pub returns-clause-steps : goal.returns-clause-steps
returns-clause-steps c = λ S M is (P, a, js, found, made).
    let (base, one) = c.take_node-base.ensures c.args.book.now S _ _ is found in
    let motive = c.last_node.ensures c.args.book.now _ _ _ one refl in
    let step = c.in_ok-ty.ensures.typed (place S) P (c.ctx.ensures c.args.book.now _ one) motive in
    let again = c.in_ok-found.ensures c.motive_step.new.book _ _ (state_later c.in_ok-ty.ensures.extends _ _ one) (says_later _ _ _ _ c.in_ok-ty.ensures.extends base) in
    let back : IsState c.motive_step.new.book c.found.new.self S = subst (λ xs. IsState c.motive_step.new.book c.found.new.self (with_found xs S)) (sym found) again in
    let state = state_later c.in_ok-ty-2.ensures.extends _ _ back in
    let here = c.in_ok-ty-2.ensures.here S (motive_step P) back step in
    let (moved, planned) = c.in_ok-plan.ensures in
    leaves _ c.found.new.self c.args.tasks.now c.plan.new.self (task.Recurring (recurring.Step c.args.code)) _ M S (task.Check c.args.code c.in_ok-ty-2.ty ∷ []) moved state planned (omega arith)
    (run_one _ S M (task.Check c.args.code c.in_ok-ty-2.ty) (motive_step P, here, made))

pub returns-in_err-ty-2-clause-extends : goal.returns-in_err-ty-2-clause-extends
returns-in_err-ty-2-clause-extends c = further c.in_ok-ty.ensures.extends c.type_here.ensures.extends

pub returns-in_err-plan-clause-extends : goal.returns-in_err-plan-clause-extends
returns-in_err-plan-clause-extends c = further c.in_ok-ty.ensures.extends c.in_ok-ty-2.ensures.extends

pub returns-clause-extends : goal.returns-clause-extends
returns-clause-extends c = further c.in_ok-ty.ensures.extends c.in_ok-ty-2.ensures.extends
