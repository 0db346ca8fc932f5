use Rattle.bidirect.proofs.CheckedLaws.{definition_to_do, definition_checked}
use Rattle.bidirect.proofs.checker.check_definition.Goals as goal

pub run-requires : goal.run-requires
run-requires c =
    let (G, ds, knows) = c.requires in
    let (moved, planned) = c.in_ok-plan.ensures in
    (_, definition_to_do c.args.book.now c.args.state.now c.new-tasks.result.items.items c.plan.new.self _ c.args.def G ds knows c.new-tasks.ensures planned c.deref.ensures.value)

pub returns-clause-checks : goal.returns-clause-checks
returns-clause-checks c G ds knows =
    let (moved, planned) = c.in_ok-plan.ensures in
    definition_checked c.run.new.book c.run.new.state c.in_ok-run.field-0 c.args.def.now G ds
    (c.in_ok-run.ensures.runs _ (definition_to_do c.args.book.now c.args.state.now c.new-tasks.result.items.items c.plan.new.self _ c.args.def G ds knows c.new-tasks.ensures planned c.deref.ensures.value))
