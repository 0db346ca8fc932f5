use Rattle.std.proofs.Common.{[], ◌∷◌, arith}
use Rattle.typing_steps.proofs.GrowthLaws.{state_later}
use Rattle.typing_steps.proofs.Planning.{leaves, run_one}
use Rattle.typing_tasks.specs.declared.tasks.Task.TheVariants as task
use Rattle.typing_tasks.specs.declared.tasks.Defining.TheVariants as defining
use Rattle.typing_steps.proofs.state.CheckState.body.Goals as goal

pub last_node-requires : goal.last_node-requires
last_node-requires c =
    let (S, M, is, does) = c.requires in
    let (A, js, found, made) = does in
    (c.args.book.now, S, _, js, is, found)

pub type_here-requires : goal.type_here-requires
type_here-requires c =
    let (S, M, is, does) = c.requires in
    let (A, js, found, made) = does in
    (S, A, is, c.last_node.ensures c.args.book.now S _ js is found)

pub returns-clause-steps : goal.returns-clause-steps
returns-clause-steps c = λ S M is (A, js, found, made).
    let says = c.last_node.ensures c.args.book.now S _ js is found in
    let state = state_later c.in_ok-ty.ensures.extends _ _ is in
    let here = c.in_ok-ty.ensures.here S A is says in
    let (moved, planned) = c.in_ok-plan.ensures in
    leaves _ c.args.self.now c.args.tasks.now c.plan.new.self (task.Defining (defining.Body c.args.code)) _ M S (task.Check c.args.code c.in_ok-ty.ty ∷ []) moved state planned (omega arith) (run_one _ S M (task.Check c.args.code c.in_ok-ty.ty) (A, here, made))
