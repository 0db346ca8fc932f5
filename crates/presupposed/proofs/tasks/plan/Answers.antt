use Rattle.std.proofs.Common.{◌≡◌, ◌++◌, ◌∙◌, reverse, sym, ap, subst}
use Rattle.literal_types.proofs.WaitLaws.{pushed_two}
use Rattle.presupposed.specs.declared.tasks.Task.TheVariants as task
use Rattle.presupposed.specs.Tasks.{asked, tasks_for}
use Rattle.presupposed.proofs.tasks.plan.Goals as goal

pub returns-in_ok-push-in-Further-2 : goal.returns-in_ok-push-in-Further-2
returns-in_ok-push-in-Further-2 c =
    let a = c.args in
    let order = pushed_two c.push-in-Further-2.new.self.items c.push-in-Further.new.self.items a.tasks.now.items c.after.result (task.Ask (asked a.premise c.in-Further.label)) c.in_ok-push-in-Further.ensures.items c.in_ok-push-in-Further-2.ensures.items in
    let same = ap (λ ts. ts ++ reverse a.tasks.now.items) (c.after.ensures c.in-Further.field-0) in
    subst (λ s. reverse c.push-in-Further-2.new.self.items ≡ tasks_for a.premise s ++ reverse a.tasks.now.items) (sym c.in-Further.is) (order ∙ sym same)
