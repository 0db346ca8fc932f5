use Rattle.std.proofs.Common.{◌≡◌, [], ◌∷◌, refl, sym, subst}
use Rattle.presuppositions.specs.declared.source.Source.TheVariants as source
use Rattle.presupposed.specs.declared.tasks.Task.TheVariants as task
use Rattle.presupposed.specs.Tasks.{asked, tasks_for}
use Rattle.presupposed.proofs.TaskLaws.{other_task}
use Rattle.presupposed.proofs.tasks.after.Goals as goal

pub returns-in-Context : goal.returns-in-Context
returns-in-Context c = λ place. subst (λ l. tasks_for c.args.premise (source.Further place l c.args.further) ≡ task.Ask (asked c.args.premise l) ∷ task.LastEntry c.args.further ∷ []) (sym c.in-Context.is) refl

pub returns-in_default : goal.returns-in_default
returns-in_default c = λ place. other_task c.args.premise place c.args.label c.args.further c.in_default.not-Context
