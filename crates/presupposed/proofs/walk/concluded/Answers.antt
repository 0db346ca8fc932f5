use Rattle.std.proofs.Common.{◌∙◌, [], ◌∷◌, sym, ap, subst, arith}
use Rattle.trees.specs.Things.{meanings}
use Rattle.book.specs.Shown.{book_concludes}
use Rattle.glue_entries.specs.Statements.{equiv_tycong_statement}
use Rattle.recipe_runner.specs.Running.{MayRun}
use Rattle.typed_nodes.proofs.TypeLaws.{is_node}
use Rattle.presupposed.proofs.FillLaws.{few_made, fills_run, first_said, made_parts, made_use, parts_few, some_said}
use Rattle.presupposed.proofs.walk.concluded.Goals as goal

pub step-requires : goal.step-requires
step-requires c =
    let (J, fills) = c.requires.fills in
    is_node c.args.book.now c.args.question.node fills.stands.0 fills.stands.1

pub of-parts-requires : goal.of-parts-requires
of-parts-requires c =
    let (J, fills) = c.requires.fills in
    let s = c.step.result in
    parts_few c.args.book.now s.rule s.parts.now s.premises.now fills.stands.0 (c.step.ensures.right fills.stands.0 fills.stands.1)

pub run-requires-clause-rows : goal.run-requires-clause-rows
run-requires-clause-rows c =
    let (J, fills) = c.requires.fills in
    let few = fills.entry.few_numbers in
    let same = few_made c.args.entry.rows.now in
    omega (arith, few, same)

pub run-requires-clause-right : goal.run-requires-clause-right
run-requires-clause-right c =
    let (J, fills) = c.requires.fills in
    let a = c.args in
    let s = c.step.result in
    let e = a.entry in
    let parts = made_parts a.book.now a.question.node fills.made s.rule s.parts.now s.premises.now fills.made_is c.step.ensures.made in
    let u = made_use a.book.now a.question.node fills.made s.rule s.parts.now s.premises.now fills.stands.0 fills.made_is c.step.ensures.made (c.step.ensures.right fills.stands.0 fills.stands.1) in (
      J ∷ [],
      subst (λ few. MayRun (equiv_tycong_statement ∷ []) a.book.now e.rows.now (e.last ∷ []) c.as_slice.result.now few (J ∷ [])) (sym c.as_slice-2.ensures.value)
          (fills_run a.book.now a.question e a.premises.now c.as_slice.result.now J fills c.requires.all u c.laws_of_shifts.ensures.shifts (c.as_slice.ensures.value ∙ c.of-parts.ensures ∙ parts.0)),
    )

pub bounds-as_slice-0 : goal.bounds-as_slice-0
bounds-as_slice-0 c =
    let (J, fills) = c.requires.fills in
    let a = c.args in
    let s = c.step.result in
    let e = a.entry in
    let parts = made_parts a.book.now a.question.node fills.made s.rule s.parts.now s.premises.now fills.made_is c.step.ensures.made in
    let u = made_use a.book.now a.question.node fills.made s.rule s.parts.now s.premises.now fills.stands.0 fills.made_is c.step.ensures.made (c.step.ensures.right fills.stands.0 fills.stands.1) in
    let run = subst (λ few. MayRun (equiv_tycong_statement ∷ []) a.book.now e.rows.now (e.last ∷ []) c.as_slice.result.now few (J ∷ [])) (sym c.as_slice-2.ensures.value)
    (fills_run a.book.now a.question e a.premises.now c.as_slice.result.now J fills c.requires.all u c.laws_of_shifts.ensures.shifts (c.as_slice.ensures.value ∙ c.of-parts.ensures ∙ parts.0)) in
    some_said (book_concludes c.run.new.book) c.as_slice-3.result.now J [] (ap (meanings (book_concludes c.run.new.book)) c.as_slice-3.ensures.value ∙ c.in_ok-nodes.ensures.concludes (J ∷ []) run)

pub returns-clause-typed : goal.returns-clause-typed
returns-clause-typed c = λ J fills.
    let a = c.args in
    let s = c.step.result in
    let e = a.entry in
    let parts = made_parts a.book.now a.question.node fills.made s.rule s.parts.now s.premises.now fills.made_is c.step.ensures.made in
    let u = made_use a.book.now a.question.node fills.made s.rule s.parts.now s.premises.now fills.stands.0 fills.made_is c.step.ensures.made (c.step.ensures.right fills.stands.0 fills.stands.1) in
    let run = subst (λ few. MayRun (equiv_tycong_statement ∷ []) a.book.now e.rows.now (e.last ∷ []) c.as_slice.result.now few (J ∷ [])) (sym c.as_slice-2.ensures.value)
    (fills_run a.book.now a.question e a.premises.now c.as_slice.result.now J fills c.requires.all u c.laws_of_shifts.ensures.shifts (c.as_slice.ensures.value ∙ c.of-parts.ensures ∙ parts.0)) in
    first_said (book_concludes c.run.new.book) c.as_slice-3.result.now J [] (ap (meanings (book_concludes c.run.new.book)) c.as_slice-3.ensures.value ∙ c.in_ok-nodes.ensures.concludes (J ∷ []) run)
