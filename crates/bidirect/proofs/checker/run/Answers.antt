use Rattle.std.proofs.Common.{subst}
use Rattle.typed_contexts.proofs.GrowthLaws.{further}
use Rattle.typing_steps.specs.Steps.{Steps}
use Rattle.bidirect.proofs.LoopLaws.{begun, may_step, next_doing, weighs_less, all_refused, all_done, none_left}
use Rattle.bidirect.proofs.checker.run.Goals as goal

pub loop-task-init : goal.loop-task-init
loop-task-init c = begun c.args.book.now c.args.state.now c.args.tasks c.requires

pub step-requires : goal.step-requires
step-requires c = may_step c.loop-task.book c.loop-task.state c.loop-task.tasks c.pop.new.self.items c.in-Some.task c.in-Some.ensures.items c.loop-task.invariant.some

pub returns-in_err-step-clause-extends : goal.returns-in_err-step-clause-extends
returns-in_err-step-clause-extends c = further c.loop-task.invariant.grown c.in_err-step.ensures.extends

pub loop-task-smaller : goal.loop-task-smaller
loop-task-smaller c =
    weighs_less c.loop-task.book c.step.new.book c.loop-task.state c.step.new.state c.loop-task.tasks (record { items = c.pop.new.self }) c.step.new.tasks c.in-Some.task c.in-Some.ensures.items
    (subst (λ n. Steps c.loop-task.book c.step.new.book c.loop-task.state c.step.new.state (record { items = c.pop.new.self }) c.step.new.tasks c.in-Some.task n) c.in-Moved.is c.in_ok-step.ensures.steps)
    c.loop-task.invariant.some

pub loop-task-preserved : goal.loop-task-preserved
loop-task-preserved c =
    next_doing c.args.book.now c.loop-task.book c.step.new.book c.args.state.now c.loop-task.state c.step.new.state c.args.tasks c.loop-task.tasks (record { items = c.pop.new.self }) c.step.new.tasks c.in-Some.task c.in-Some.ensures.items c.loop-task.invariant
    c.in_ok-step.ensures.extends
    (subst (λ n. Steps c.loop-task.book c.step.new.book c.loop-task.state c.step.new.state (record { items = c.pop.new.self }) c.step.new.tasks c.in-Some.task n) c.in-Moved.is c.in_ok-step.ensures.steps)

pub returns-in-NotDirect-clause-extends : goal.returns-in-NotDirect-clause-extends
returns-in-NotDirect-clause-extends c = further c.loop-task.invariant.grown c.in_ok-step.ensures.extends

pub returns-in-NotDirect-clause-runs : goal.returns-in-NotDirect-clause-runs
returns-in-NotDirect-clause-runs c =
    all_refused c.args.book.now c.loop-task.book c.step.new.book c.args.state.now c.loop-task.state c.step.new.state c.args.tasks c.loop-task.tasks (record { items = c.pop.new.self }) c.step.new.tasks c.in-Some.task c.in-Some.ensures.items c.loop-task.invariant
    (subst (λ n. Steps c.loop-task.book c.step.new.book c.loop-task.state c.step.new.state (record { items = c.pop.new.self }) c.step.new.tasks c.in-Some.task n) c.in-NotDirect.is c.in_ok-step.ensures.steps)

pub returns-clause-extends : goal.returns-clause-extends
returns-clause-extends c = c.loop-task.invariant.grown

pub returns-clause-runs : goal.returns-clause-runs
returns-clause-runs c R h =
    all_done c.loop-task.book c.loop-task.state c.loop-task.tasks (none_left c.loop-task.tasks.items.items c.loop-task.tasks.items.len c.loop-task.tasks.items.ok.0 c.in_default.ensures.cases.0) R (c.loop-task.invariant.leads R h)
