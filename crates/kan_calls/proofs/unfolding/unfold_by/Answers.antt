use Rattle.std.proofs.Common.{◌++◌, ◌∷◌, ◌∙◌, length, ap, arith}
use Rattle.trees.specs.Things.{meanings}
use Rattle.trees.proofs.Meanings.{meanings-length}
use Rattle.recipes.specs.Derivations.{conclusions_at}
use Rattle.recipe_runner.proofs.RunLaws.{extends-further}
use Rattle.book.specs.Shown.{book_concludes}
use Rattle.kan_calls.specs.Unfoldings.{unfold_statement}
use Rattle.kan_calls.proofs.CallLaws.{run-gives, run-along}
use Rattle.kan_calls.proofs.UnfoldLaws.{few-premises, runs-later, cut-two}
use Rattle.kan_calls.proofs.unfolding.unfold_by.Goals as goal

pub followed-premises-requires : goal.followed-premises-requires
followed-premises-requires g c =
    let a = c.args in
    let s = unfold_statement a.step.now.rule in
    let few = few-premises (g.E.Earlier.states a.earlier.now) (g.E.Earlier.most a.earlier.now) s a.recipe.rows.now a.recipe.gives.now a.most a.book.now a.ctx.0 a.step.now.parts a.step.now.premises c.requires.right.0 c.requires.recipe c.requires.right.1 in
    let one = ap length c.of.ensures in
    let same = ap length c.as_slice.ensures.value in
    omega (arith, few, one, same)

pub run-requires-clause-rows : goal.run-requires-clause-rows
run-requires-clause-rows g c = c.requires.recipe.made

pub run-requires-clause-outs : goal.run-requires-clause-outs
run-requires-clause-outs g c = c.requires.recipe.gives_few

pub run-requires-clause-right : goal.run-requires-clause-right
run-requires-clause-right g c =
    let a = c.args in
    let ss = g.E.Earlier.states a.earlier.now in
    let s = unfold_statement a.step.now.rule in
    let things = c.requires.right.0 in
    let premises = c.as_slice-3.ensures.value ∙ c.followed-premises.ensures ∙ ap (λ z. z ++ c.as_slice.result.now) c.of.ensures ∙ ap (λ z. a.ctx.0 ∷ z) c.as_slice.ensures.value in (
      conclusions_at s things,
      run-along ss c.reserve.new.self a.recipe.rows.now a.recipe.gives.now _ _ _ _ (conclusions_at s things) c.as_slice-2.ensures.value premises
          (runs-later ss (g.E.Earlier.most a.earlier.now) s a.recipe.rows.now a.recipe.gives.now a.most a.book.now c.reserve.new.self a.ctx.0 a.step.now.parts a.step.now.premises things c.requires.recipe c.reserve.ensures.extends c.requires.right.1),
    )

pub bounds-numbers-0 : goal.bounds-numbers-0
bounds-numbers-0 g c =
    let a = c.args in
    let ss = g.E.Earlier.states a.earlier.now in
    let s = unfold_statement a.step.now.rule in
    let things = c.requires.right.0 in
    let gives = conclusions_at s things in
    let premises = c.as_slice-3.ensures.value ∙ c.followed-premises.ensures ∙ ap (λ z. z ++ c.as_slice.result.now) c.of.ensures ∙ ap (λ z. a.ctx.0 ∷ z) c.as_slice.ensures.value in
    let h = run-along ss c.reserve.new.self a.recipe.rows.now a.recipe.gives.now _ _ _ _ gives c.as_slice-2.ensures.value premises
    (runs-later ss (g.E.Earlier.most a.earlier.now) s a.recipe.rows.now a.recipe.gives.now a.most a.book.now c.reserve.new.self a.ctx.0 a.step.now.parts a.step.now.premises things c.requires.recipe c.reserve.ensures.extends c.requires.right.1) in
    let nodes = meanings-length (book_concludes c.run.new.book) c.in_ok-nodes.nodes gives (c.in_ok-nodes.ensures.concludes gives h) in
    let outs = run-gives ss c.reserve.new.self a.recipe.rows.now a.recipe.gives.now _ _ gives h in
    let same = ap length c.as_slice-numbers.ensures.value in
    let two = c.requires.two in
    omega (arith, nodes, outs, same, two)

pub bounds-numbers-1 : goal.bounds-numbers-1
bounds-numbers-1 g c =
    let a = c.args in
    let ss = g.E.Earlier.states a.earlier.now in
    let s = unfold_statement a.step.now.rule in
    let things = c.requires.right.0 in
    let gives = conclusions_at s things in
    let premises = c.as_slice-3.ensures.value ∙ c.followed-premises.ensures ∙ ap (λ z. z ++ c.as_slice.result.now) c.of.ensures ∙ ap (λ z. a.ctx.0 ∷ z) c.as_slice.ensures.value in
    let h = run-along ss c.reserve.new.self a.recipe.rows.now a.recipe.gives.now _ _ _ _ gives c.as_slice-2.ensures.value premises
    (runs-later ss (g.E.Earlier.most a.earlier.now) s a.recipe.rows.now a.recipe.gives.now a.most a.book.now c.reserve.new.self a.ctx.0 a.step.now.parts a.step.now.premises things c.requires.recipe c.reserve.ensures.extends c.requires.right.1) in
    let nodes = meanings-length (book_concludes c.run.new.book) c.in_ok-nodes.nodes gives (c.in_ok-nodes.ensures.concludes gives h) in
    let outs = run-gives ss c.reserve.new.self a.recipe.rows.now a.recipe.gives.now _ _ gives h in
    let same = ap length c.as_slice-numbers.ensures.value in
    let two = c.requires.two in
    omega (arith, nodes, outs, same, two)

pub returns-clause-extends : goal.returns-clause-extends
returns-clause-extends g c = extends-further _ _ _ c.reserve.ensures.extends c.in_ok-nodes.ensures.extends

pub returns-clause-gives : goal.returns-clause-gives
returns-clause-gives g c = λ things start.
    let a = c.args in
    let ss = g.E.Earlier.states a.earlier.now in
    let s = unfold_statement a.step.now.rule in
    let gives = conclusions_at s things in
    let premises = c.as_slice-3.ensures.value ∙ c.followed-premises.ensures ∙ ap (λ z. z ++ c.as_slice.result.now) c.of.ensures ∙ ap (λ z. a.ctx.0 ∷ z) c.as_slice.ensures.value in
    let h = run-along ss c.reserve.new.self a.recipe.rows.now a.recipe.gives.now _ _ _ _ gives c.as_slice-2.ensures.value premises
    (runs-later ss (g.E.Earlier.most a.earlier.now) s a.recipe.rows.now a.recipe.gives.now a.most a.book.now c.reserve.new.self a.ctx.0 a.step.now.parts a.step.now.premises things c.requires.recipe c.reserve.ensures.extends start) in
    let concluded = c.in_ok-nodes.ensures.concludes gives h in
    let nodes = meanings-length (book_concludes c.run.new.book) c.in_ok-nodes.nodes gives concluded in
    let outs = run-gives ss c.reserve.new.self a.recipe.rows.now a.recipe.gives.now _ _ gives h in
    let same = ap length c.as_slice-numbers.ensures.value in
    let two = c.requires.two in
    ap (meanings (book_concludes c.run.new.book)) (cut-two c.as_slice-numbers.result.now (omega (arith, nodes, outs, same, two)) ∙ c.as_slice-numbers.ensures.value) ∙ concluded
