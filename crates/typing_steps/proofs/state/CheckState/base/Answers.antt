use Rattle.std.proofs.Common.{[], ◌∷◌, refl, arith}
use Rattle.trees.specs.Trees.{push, id}
use Rattle.trees.specs.Judgements.{WithVar}
use Rattle.translation.specs.Terms.{nat, zero}
use Rattle.direct.specs.Literal.{at}
use Rattle.typed_nodes.specs.declared.types.TypeAt.{TypeAt}
use Rattle.typed_nodes.specs.Typed.{IsTypeAt}
use Rattle.typed_nodes.proofs.GrowthLaws.{says_later}
use Rattle.typing_tasks.specs.States.{place}
use Rattle.typing_steps.proofs.GrowthLaws.{state_later}
use Rattle.typing_steps.proofs.Planning.{leaves, run_one}
use Rattle.typing_tasks.specs.declared.tasks.Task.TheVariants as task
use Rattle.typing_tasks.specs.declared.tasks.Recurring.TheVariants as recurring
use Rattle.typing_steps.proofs.state.CheckState.base.Goals as goal

pub last_node-ty-requires : goal.last_node-ty-requires
last_node-ty-requires c =
    let (S, M, is, does) = c.requires in
    let (P, js, found, made) = does in
    (c.args.book.now, S, _, js, is, found)

pub motive_start-requires : goal.motive_start-requires
motive_start-requires c =
    let (S, M, is, does) = c.requires in
    let (P, js, found, made) = does in
    (place S, c.ctx.ensures c.args.book.now S is)

pub returns-clause-steps : goal.returns-clause-steps
returns-clause-steps c = λ S M is (P, js, found, made).
    let motive = c.last_node-ty.ensures c.args.book.now S _ js is found in
    let sub = c.in_ok-sub.ensures.typed (place S) (c.ctx.ensures c.args.book.now S is) in
    let later = c.in_ok-sub.ensures.extends in
    let (moved, planned) = c.in_ok-plan.ensures in
    let ty : TypeAt = record { ty = c.last_node-ty.result; sub = c.in_ok-sub.sub } in
    let is_type : IsTypeAt c.motive_start.new.book ty (place S) (at P zero) = record { home = WithVar (place S) nat; tree = P; sub = push id zero; type_is = says_later _ _ _ _ later motive; sub_is = sub; is = refl } in
    leaves _ c.args.self.now c.args.tasks.now c.plan.new.self (task.Recurring (recurring.Base c.args.code)) _ M S (task.Check c.args.code ty ∷ []) moved (state_later later c.args.self.now S is) planned (omega arith) (run_one _ S M (task.Check c.args.code ty) (at P zero, is_type, made))
