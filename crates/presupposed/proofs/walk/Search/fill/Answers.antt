use Rattle.std.proofs.Common.{◌≡◌, ◌++◌, length, sym, ◌∙◌, ap, subst, arith, Some}
use Rattle.std.specs.Prelude.{slice_get, slice_index_or}
use Rattle.literal_types.proofs.WaitLaws.{pushed_one}
use Rattle.presuppositions.specs.declared.source.Source.TheVariants as source
use Rattle.presupposed.specs.declared.tasks.Task.TheVariants as task
use Rattle.presupposed.specs.Tasks.{tasks_for}
use Rattle.presupposed.proofs.FillLaws.{fills_next}
use Rattle.presupposed.proofs.StepLaws.{at_index, asks_less, asks_source, found_one}
use Rattle.presupposed.proofs.walk.Search.fill.Goals as goal

pub concluded-requires-clause-all : goal.concluded-requires-clause-all
concluded-requires-clause-all c = ap length (sym c.as_slice-count.ensures.value) ∙ c.if-count-entry.true

pub concluded-requires-clause-fills : goal.concluded-requires-clause-fills
concluded-requires-clause-fills c =
    let (top, I, J, leads, way, fills) = c.requires in
    (I, fills)

pub returns-then-count-entry-clause-goes : goal.returns-then-count-entry-clause-goes
returns-then-count-entry-clause-goes c = λ top I J leads way fills.
    found_one c.args.book.now c.concluded.new.book c.args.self.now c.insert.new.self c.args.question top c.in_ok-node.node I J c.in_ok-node.ensures.extends leads fills.stands (c.in_ok-node.ensures.typed I fills) c.in_ok-insert.ensures

pub bounds-entry-count : goal.bounds-entry-count
bounds-entry-count c =
    let (top, I, J, leads, way, fills) = c.requires in
    let le = fills.within in
    let same = ap length c.as_slice-count.ensures.value in
    let other = c.if-count-entry.false in
    omega (arith, le, same, other)

pub premise_of-premise-requires : goal.premise_of-premise-requires
premise_of-premise-requires c =
    let (top, I, J, leads, way, fills) = c.requires in
    let ss = c.args.entry.sources.now in
    let i = length c.as_slice-count.result.now in
    let same = ap length c.as_slice-count.ensures.value in
    let le = fills.within in
    let other = c.if-count-entry.false in
    let s = slice_index_or ss i (source.Premise 0) in
    let at = subst (λ n. slice_get ss n ≡ Some s) same (at_index ss i (source.Premise 0) (omega (arith, le, same, other))) in
    let n = fills_next c.args.book.now c.args.question c.args.entry c.args.few s I fills at in
    (n.fills.made, n.fills.made_is, n.within)

pub returns-clause-goes : goal.returns-clause-goes
returns-clause-goes c = λ top I J leads way fills.
    let a = c.args in
    let ss = a.entry.sources.now in
    let i = length c.as_slice-count.result.now in
    let same = ap length c.as_slice-count.ensures.value in
    let le = fills.within in
    let other = c.if-count-entry.false in
    let s = slice_index_or ss i (source.Premise 0) in
    let premise = c.premise_of-premise.result in
    let at = subst (λ n. slice_get ss n ≡ Some s) same (at_index ss i (source.Premise 0) (omega (arith, le, same, other))) in
    let order = c.in_ok-plan.ensures ∙ ap (λ ts. tasks_for premise s ++ ts) (pushed_one c.push.new.self.items a.self.now.tasks.items (task.Fill a.question a.entry a.few) c.in_ok-push.ensures.items) in (
      leads.last,
      leads.says,
      record {
        remembers = leads.remembers;
        last = leads.last;
        says = leads.says;
        leads = asks_source a.book.now a.self.now top a.question a.entry a.few s premise c.plan.new.tasks.items I J leads way fills at c.premise_of-premise.ensures.premise c.premise_of-premise.ensures.earlier order;
      },
    )

pub returns-clause-less : goal.returns-clause-less
returns-clause-less c =
    let (top, I, J, leads, way, fills) = c.requires in
    let a = c.args in
    let s = slice_index_or a.entry.sources.now (length c.as_slice-count.result.now) (source.Premise 0) in
    let premise = c.premise_of-premise.result in
    let few = fills.entry.few_sources in
    let le = fills.within in
    let order = c.in_ok-plan.ensures ∙ ap (λ ts. tasks_for premise s ++ ts) (pushed_one c.push.new.self.items a.self.now.tasks.items (task.Fill a.question a.entry a.few) c.in_ok-push.ensures.items) in
    asks_less a.book.now a.self.now c.requires.0 a.question a.entry a.few s premise c.plan.new.tasks.items (omega (arith, few, le)) c.premise_of-premise.ensures.earlier order
