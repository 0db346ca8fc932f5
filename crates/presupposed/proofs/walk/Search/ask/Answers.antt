use Rattle.std.proofs.Common.{◌*◌, ◌-◌, ◌∙◌, [], ◌∷◌, length, sym, ap, subst, arith}
use Rattle.literal_types.proofs.WaitLaws.{pushed_two}
use Rattle.presuppositions.specs.declared.source.Label.TheVariants as label
use Rattle.presupposed.specs.declared.tasks.Task.TheVariants as task
use Rattle.glue_entries.specs.Statements.{equiv_tycong_statement}
use Rattle.typed_nodes.proofs.TypeLaws.{is_node}
use Rattle.presuppositions.specs.Entries.{Answers}
use Rattle.presupposed.specs.Tasks.{asked, Fills, weight}
use Rattle.presupposed.proofs.StepLaws.{asks_context, asks_context_less, begins, found_before, found_same, unfolds, unfolds_equation}
use Rattle.presupposed.proofs.RuleLaws.{unfolded-right}
use Rattle.presupposed.proofs.TaskLaws.{grown_same}
use Rattle.presupposed.proofs.WeightLaws.{some_weight}
use Rattle.presupposed.proofs.walk.Search.ask.Goals as goal

pub returns-in-Some-clause-goes : goal.returns-in-Some-clause-goes
returns-in-Some-clause-goes c = λ top I J leads way stands.
    let a = c.args in
    found_same a.book.now a.book.now a.self.now top c.in-Some.node I J (grown_same a.book.now) leads (found_before a.book.now a.self.now a.question top c.in-Some.node I J leads stands (sym c.get.ensures ∙ c.in-Some.is))

pub step-rule-requires : goal.step-rule-requires
step-rule-requires c =
    let (top, I, J, leads, way, stands) = c.requires in
    is_node c.args.book.now c.args.question.node stands.0 stands.1

pub fill-requires : goal.fill-requires
fill-requires c =
    let (top, I, J, leads, way, stands) = c.requires in
    let a = c.args in
    let s = c.step-rule.result in
    let e = c.in-Some-entry.entry in
    let entry = subst (Answers (equiv_tycong_statement ∷ []) s.rule a.question.label) c.in-Some-entry.is c.entry.ensures in
    (top, I, J, leads, way, subst (λ few. Fills a.book.now a.question e few I) (sym c.new.ensures) (begins a.book.now a.question e I s.rule s.parts.now s.premises.now stands c.step-rule.ensures.made c.step-rule.ensures.right entry))

pub returns-in-Some-entry-clause-goes : goal.returns-in-Some-entry-clause-goes
returns-in-Some-entry-clause-goes c = λ top I J leads way stands.
    let a = c.args in
    let s = c.step-rule.result in
    let e = c.in-Some-entry.entry in
    let entry = subst (Answers (equiv_tycong_statement ∷ []) s.rule a.question.label) c.in-Some-entry.is c.entry.ensures in
    c.in_ok-fill.ensures.goes top I J leads way (subst (λ few. Fills a.book.now a.question e few I) (sym c.new.ensures) (begins a.book.now a.question e I s.rule s.parts.now s.premises.now stands c.step-rule.ensures.made c.step-rule.ensures.right entry))

pub returns-in-Some-entry-clause-less : goal.returns-in-Some-entry-clause-less
returns-in-Some-entry-clause-less c =
    let less = c.in_ok-fill.ensures.less in
    let all = ap (λ few. (17 - length few) * (3 * weight c.args.question.node)) c.new.ensures in
    let one = some_weight c.args.question.node in
    omega (arith, less, all, one)

pub returns-clause-goes : goal.returns-clause-goes
returns-clause-goes c = λ top I J leads way stands.
    let a = c.args in
    let s = c.step-rule.result in
    let none = subst (Answers (equiv_tycong_statement ∷ []) s.rule a.question.label) c.in_default-entry.is c.entry.ensures in
    let e = unfolds a.book.now top a.question I s.rule s.parts.now s.premises.now stands way c.step-rule.ensures.made c.step-rule.ensures.right none in
    let (G, l, r, A, u, is) = unfolds_equation a.book.now a.question I s.rule s.parts.now s.premises.now stands c.step-rule.ensures.made (c.step-rule.ensures.right stands.0 stands.1) e in
    let order = pushed_two c.push-2.new.self.items c.push.new.self.items a.self.now.tasks.items (task.Unfold a.question.node) (task.Ask (asked a.question.node label.Context)) c.in_ok-push.ensures.items c.in_ok-push-2.ensures.items in (
      leads.last,
      leads.says,
      record {
        remembers = leads.remembers;
        last = leads.last;
        says = leads.says;
        leads = asks_context a.book.now a.self.now top a.question c.push-2.new.self.items I J leads way G l r A u is order;
      },
    )

pub returns-clause-less : goal.returns-clause-less
returns-clause-less c =
    let (top, I, J, leads, way, stands) = c.requires in
    let a = c.args in
    let s = c.step-rule.result in
    let none = subst (Answers (equiv_tycong_statement ∷ []) s.rule a.question.label) c.in_default-entry.is c.entry.ensures in
    let e = unfolds a.book.now top a.question I s.rule s.parts.now s.premises.now stands way c.step-rule.ensures.made c.step-rule.ensures.right none in
    let order = pushed_two c.push-2.new.self.items c.push.new.self.items a.self.now.tasks.items (task.Unfold a.question.node) (task.Ask (asked a.question.node label.Context)) c.in_ok-push.ensures.items c.in_ok-push-2.ensures.items in
    asks_context_less a.self.now a.question c.push-2.new.self.items (unfolded-right s.rule a.question.label e) order

pub returns-in-Some-clause-less : goal.returns-in-Some-clause-less
returns-in-Some-clause-less c = let one = some_weight c.args.question.node in omega (arith, one)
