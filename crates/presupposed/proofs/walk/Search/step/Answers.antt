use Rattle.std.proofs.Common.{refl, sym, subst}
use Rattle.trees.specs.Language.{Ctx}
use Rattle.literal_types.proofs.WaitLaws.{pushed_two}
use Rattle.typed_nodes.specs.Typed.{Says}
use Rattle.presupposed.specs.declared.tasks.Task.TheVariants as task
use Rattle.presupposed.specs.Tasks.{DoAll, Fills}
use Rattle.presupposed.specs.Walks.{DoesNext}
use Rattle.presupposed.proofs.FillLaws.{fills_more}
use Rattle.presupposed.proofs.StepLaws.{found_same}
use Rattle.presupposed.proofs.walk.Search.step.Goals as goal

pub returns-in_ok-ask-in-Ask-clause-goes : goal.returns-in_ok-ask-in-Ask-clause-goes
returns-in_ok-ask-in-Ask-clause-goes c = λ top I J leads does.
    let a = c.args in
    let (K, says, (way, stands)) = subst (λ t. DoesNext a.book.now a.self.now top t I) c.in-Ask.is does in
    c.in_ok-ask-in-Ask.ensures.goes top I J leads way stands

pub unfold-requires : goal.unfold-requires
unfold-requires c =
    let a = c.args in
    let (top, I, J, leads, does) = c.requires in
    (top, I, J, leads, subst (λ t. DoesNext a.book.now a.self.now top t I) c.in-Unfold.is does)

pub returns-in_ok-unfold-in-Unfold-clause-goes : goal.returns-in_ok-unfold-in-Unfold-clause-goes
returns-in_ok-unfold-in-Unfold-clause-goes c = λ top I J leads does.
    let a = c.args in
    c.in_ok-unfold-in-Unfold.ensures.goes top I J leads (subst (λ t. DoesNext a.book.now a.self.now top t I) c.in-Unfold.is does)

pub fill-requires : goal.fill-requires
fill-requires c =
    let a = c.args in
    let f = c.in-Fill in
    let (top, I, J, leads, does) = c.requires in
    let (K, says, (way, awaits)) = subst (λ t. DoesNext a.book.now a.self.now top t I) f.is does in
    (top, I, J, leads, way, subst (λ few. Fills a.book.now f.question f.entry few I) (sym c.push-in-Fill.ensures) (fills_more a.book.now f.question f.entry f.few K I a.self.now.found awaits says))

pub returns-in_ok-fill-in-Fill-clause-goes : goal.returns-in_ok-fill-in-Fill-clause-goes
returns-in_ok-fill-in-Fill-clause-goes c = λ top I J leads does.
    let a = c.args in
    let f = c.in-Fill in
    let (K, says, (way, awaits)) = subst (λ t. DoesNext a.book.now a.self.now top t I) f.is does in
    c.in_ok-fill-in-Fill.ensures.goes top I J leads way (subst (λ few. Fills a.book.now f.question f.entry few I) (sym c.push-in-Fill.ensures) (fills_more a.book.now f.question f.entry f.few K I a.self.now.found awaits says))

pub returns-in_ok-push-in-PartIn-2-clause-goes : goal.returns-in_ok-push-in-PartIn-2-clause-goes
returns-in_ok-push-in-PartIn-2-clause-goes c = λ top I J leads does.
    let a = c.args in
    let p = c.in-PartIn in
    let (K, says, (G, T, is, way, stands, part, e)) = subst (λ t. DoesNext a.book.now a.self.now top t I) p.is does in
    let typed = subst (Says a.book.now a.self.now.found) is says in
    let order = pushed_two c.push-in-PartIn.new.self.items c.push.new.self.items a.self.now.tasks.items (task.PartOf a.self.now.found p.label) (task.Ask p.question) c.in_ok-push-in-PartIn.ensures.items c.in_ok-push-in-PartIn-2.ensures.items in (
      K,
      says,
      record {
        remembers = leads.remembers;
        last = leads.last;
        says = leads.says;
        leads = subst (λ ts. DoAll a.book.now top ts K J) (sym order) (Ctx G, (way, stands), (I, (G, T, refl, typed, part, e), leads.leads));
      },
    )

pub returns-in_ok-self-in-PartOf-clause-goes : goal.returns-in_ok-self-in-PartOf-clause-goes
returns-in_ok-self-in-PartOf-clause-goes c = λ top I J leads does.
    let a = c.args in
    let p = c.in-PartOf in
    let (K, says, (G, T, is, ty, part, e)) = subst (λ t. DoesNext a.book.now a.self.now top t I) p.is does in
    let ctx = subst (Says a.book.now a.self.now.found) is says in
    found_same a.book.now c.part_of.new.book a.self.now top c.in_ok-self-in-PartOf.field-0 I J c.in_ok-self-in-PartOf.ensures.extends leads (c.in_ok-self-in-PartOf.ensures.typed G T I ctx ty part e)
