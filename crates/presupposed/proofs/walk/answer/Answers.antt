use Rattle.std.proofs.Common.{◌++◌, [], ◌∷◌, ◌∙◌, refl, ap}
use Rattle.literal_types.proofs.GrowthLaws.{extends_extends}
use Rattle.literal_types.proofs.WaitLaws.{none_left}
use Rattle.presupposed.specs.declared.tasks.Task.TheVariants as task
use Rattle.presupposed.specs.declared.walk.Search.{Search}
use Rattle.presupposed.proofs.LoopLaws.{all_found, begun, next_less, next_task}
use Rattle.presupposed.proofs.TaskLaws.{grown_same}
use Rattle.presupposed.proofs.walk.answer.Goals as goal

pub loop-task-init : goal.loop-task-init
loop-task-init c = record {
  extends = grown_same c.args.book.now;
  goes = λ J stands.
      begun c.args.book.now (record { alloc = c.args.alloc; tasks = c.push.new.self; memory = c.new-2.result; found = c.args.question.node }) c.args.question
      (c.in_ok-push.ensures.items ∙ ap (λ ts. ts ++ task.Ask c.args.question ∷ []) c.new.ensures.items) refl c.new-2.ensures c.requires.way J stands;
}

pub step-requires : goal.step-requires
step-requires c =
    let (J, stands) = c.requires.stands in
    let l = c.loop-task in
    let left : Search = record { alloc = l.search.alloc; tasks = c.pop.new.self; memory = l.search.memory; found = l.search.found } in
    let (I, leads, does) = next_task l.book l.search left c.args.question c.in-Some.task J c.in-Some.ensures.items refl refl (l.invariant.goes J stands) in
    (c.args.question, I, J, leads, does)

pub returns-in_err-step-clause-extends : goal.returns-in_err-step-clause-extends
returns-in_err-step-clause-extends c = extends_extends c.loop-task.invariant.extends c.in_err-step.ensures.extends

pub loop-task-smaller : goal.loop-task-smaller
loop-task-smaller c =
    let l = c.loop-task in
    next_less l.search (record { alloc = l.search.alloc; tasks = c.pop.new.self; memory = l.search.memory; found = l.search.found }) c.step.new.self c.in-Some.task c.in-Some.ensures.items c.in_ok-step.ensures.less

pub loop-task-preserved : goal.loop-task-preserved
loop-task-preserved c = record {
  extends = extends_extends c.loop-task.invariant.extends c.in_ok-step.ensures.extends;
  goes = λ J stands.
      let l = c.loop-task in
      let left : Search = record { alloc = l.search.alloc; tasks = c.pop.new.self; memory = l.search.memory; found = l.search.found } in
      let (I, leads, does) = next_task l.book l.search left c.args.question c.in-Some.task J c.in-Some.ensures.items refl refl (l.invariant.goes J stands) in
      c.in_ok-step.ensures.goes c.args.question I J leads does;
}

pub returns-clause-extends : goal.returns-clause-extends
returns-clause-extends c = c.loop-task.invariant.extends

pub returns-clause-found : goal.returns-clause-found
returns-clause-found c = λ J stands.
    let l = c.loop-task in
    all_found l.book l.search c.args.question J (none_left l.search.tasks.items l.search.tasks.len l.search.tasks.ok.0 c.in_default.ensures.cases.0) (l.invariant.goes J stands)
