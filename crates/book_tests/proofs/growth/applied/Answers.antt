use Rattle.std.proofs.Common.{◌<◌, ◌∙◌, length, refl, sym, ap, subst}
use Rattle.std.specs.Prelude.{slice_index}
use Rattle.trees.specs.Trees.{Var}
use Rattle.trees.specs.Judgements.{trees}
use Rattle.trees.specs.Things.{AContext, ATree}
use Rattle.rules.specs.Table.{app}
use Rattle.book.specs.Shown.{book_means}
use Rattle.book.proofs.BookLaws.{node-there}
use Rattle.recipe_runner.proofs.BuildLaws.{claim-field}
use Rattle.recipe_runner.proofs.RunLaws.{extends-further}
use Rattle.book_tests.specs.Stated.{function_said, number_said, of_variables}
use Rattle.book_tests.proofs.GrowthLaws.{app-use, app-shifts}
use Rattle.book_tests.proofs.growth.applied.Goals as goal

pub conclusion-requires : goal.conclusion-requires
conclusion-requires c = node-there c.args.book.now c.args.function.0 function_said c.requires.function

pub conclusion-requires-2 : goal.conclusion-requires-2
conclusion-requires-2 c = node-there c.args.book.now c.args.number.0 (number_said c.requires.number.0) c.requires.number.1

pub bounds-of_function-0 : goal.bounds-of_function-0
bounds-of_function-0 c =
    let b = c.args.book.now in
    let ctx = claim-field b c.conclusion.result function_said 0 (AContext (of_variables trees)) (c.conclusion.ensures ∙ c.requires.function) refl in
    subst (λ ns. 0 < length ns) (sym (c.as_slice-of_function.ensures ∙ c.rows-of_function.ensures)) ctx.within

pub bounds-of_function-1 : goal.bounds-of_function-1
bounds-of_function-1 c =
    let b = c.args.book.now in
    let function = claim-field b c.conclusion.result function_said 1 (ATree (Var 1)) (c.conclusion.ensures ∙ c.requires.function) refl in
    subst (λ ns. 1 < length ns) (sym (c.as_slice-of_function.ensures ∙ c.rows-of_function.ensures)) function.within

pub bounds-of_number-1 : goal.bounds-of_number-1
bounds-of_number-1 c =
    let b = c.args.book.now in
    let t = c.requires.number.0 in
    let number = claim-field b c.conclusion-2.result (number_said t) 1 (ATree t) (c.conclusion-2.ensures ∙ c.requires.number.1) refl in
    subst (λ ns. 1 < length ns) (sym (c.as_slice-of_number.ensures ∙ c.rows-of_number.ensures)) number.within

pub conclude-requires-clause-right : goal.conclude-requires-clause-right
conclude-requires-clause-right c =
    let b = c.args.book.now in
    let t = c.requires.number.0 in
    let keeps = c.make.ensures.kept.keeps in
    let of_function = c.as_slice-of_function.ensures ∙ c.rows-of_function.ensures in
    let of_number = c.as_slice-of_number.ensures ∙ c.rows-of_number.ensures in
    let ctx = claim-field b c.conclusion.result function_said 0 (AContext (of_variables trees)) (c.conclusion.ensures ∙ c.requires.function) refl in
    let function = claim-field b c.conclusion.result function_said 1 (ATree (Var 1)) (c.conclusion.ensures ∙ c.requires.function) refl in
    let number = claim-field b c.conclusion-2.result (number_said t) 1 (ATree t) (c.conclusion-2.ensures ∙ c.requires.number.1) refl in
    let ctx_is = keeps _ _ (ap (λ ns. book_means b (slice_index ns 0)) of_function ∙ ctx.is) in
    let function_is = keeps _ _ (ap (λ ns. book_means b (slice_index ns 1)) of_function ∙ function.is) in
    let number_is = keeps _ _ (ap (λ ns. book_means b (slice_index ns 1)) of_number ∙ number.is) in
    (number_said (app trees (Var 1) t), app-use c.make.new.self c.args.function.0 c.args.number.0 t _ _ _ c.in_ok-ty.ty ctx_is function_is number_is c.in_ok-ty.ensures.meaning c.of.result c.of.ensures c.of-2.result c.of-2.ensures (c.make.ensures.extends.conclusions _ _ c.requires.function) (c.make.ensures.extends.conclusions _ _ c.requires.number.1))

pub conclude-requires-clause-shifts : goal.conclude-requires-clause-shifts
conclude-requires-clause-shifts c =
    let b = c.args.book.now in
    let t = c.requires.number.0 in
    let keeps = c.make.ensures.kept.keeps in
    let of_function = c.as_slice-of_function.ensures ∙ c.rows-of_function.ensures in
    let of_number = c.as_slice-of_number.ensures ∙ c.rows-of_number.ensures in
    let ctx = claim-field b c.conclusion.result function_said 0 (AContext (of_variables trees)) (c.conclusion.ensures ∙ c.requires.function) refl in
    let function = claim-field b c.conclusion.result function_said 1 (ATree (Var 1)) (c.conclusion.ensures ∙ c.requires.function) refl in
    let number = claim-field b c.conclusion-2.result (number_said t) 1 (ATree t) (c.conclusion-2.ensures ∙ c.requires.number.1) refl in
    let ctx_is = keeps _ _ (ap (λ ns. book_means b (slice_index ns 0)) of_function ∙ ctx.is) in
    let function_is = keeps _ _ (ap (λ ns. book_means b (slice_index ns 1)) of_function ∙ function.is) in
    let number_is = keeps _ _ (ap (λ ns. book_means b (slice_index ns 1)) of_number ∙ number.is) in
    app-shifts c.make.new.self c.args.function.0 c.args.number.0 t _ _ _ c.in_ok-ty.ty ctx_is function_is number_is c.in_ok-ty.ensures.meaning c.of.result c.of.ensures

pub returns-clause-concludes : goal.returns-clause-concludes
returns-clause-concludes c =
    let b = c.args.book.now in
    let t = c.requires.number.0 in
    let keeps = c.make.ensures.kept.keeps in
    let of_function = c.as_slice-of_function.ensures ∙ c.rows-of_function.ensures in
    let of_number = c.as_slice-of_number.ensures ∙ c.rows-of_number.ensures in
    let ctx = claim-field b c.conclusion.result function_said 0 (AContext (of_variables trees)) (c.conclusion.ensures ∙ c.requires.function) refl in
    let function = claim-field b c.conclusion.result function_said 1 (ATree (Var 1)) (c.conclusion.ensures ∙ c.requires.function) refl in
    let number = claim-field b c.conclusion-2.result (number_said t) 1 (ATree t) (c.conclusion-2.ensures ∙ c.requires.number.1) refl in
    let ctx_is = keeps _ _ (ap (λ ns. book_means b (slice_index ns 0)) of_function ∙ ctx.is) in
    let function_is = keeps _ _ (ap (λ ns. book_means b (slice_index ns 1)) of_function ∙ function.is) in
    let number_is = keeps _ _ (ap (λ ns. book_means b (slice_index ns 1)) of_number ∙ number.is) in
    (app trees (Var 1) t, c.in_ok-conclude.ensures.concludes _ (app-use c.make.new.self c.args.function.0 c.args.number.0 t _ _ _ c.in_ok-ty.ty ctx_is function_is number_is c.in_ok-ty.ensures.meaning c.of.result c.of.ensures c.of-2.result c.of-2.ensures (c.make.ensures.extends.conclusions _ _ c.requires.function) (c.make.ensures.extends.conclusions _ _ c.requires.number.1)))

pub returns-clause-extends : goal.returns-clause-extends
returns-clause-extends c = extends-further c.args.book.now c.make.new.self c.conclude.new.self c.make.ensures.extends c.conclude.ensures.extends

pub returns-in_err-conclude-clause-extends : goal.returns-in_err-conclude-clause-extends
returns-in_err-conclude-clause-extends c = extends-further c.args.book.now c.make.new.self c.conclude.new.self c.make.ensures.extends c.conclude.ensures.extends
