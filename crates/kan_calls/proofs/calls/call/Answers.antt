use Rattle.std.proofs.Common.{◌++◌, ◌∷◌, ◌∙◌, length, ap, arith}
use Rattle.trees.specs.Things.{meanings}
use Rattle.trees.proofs.Meanings.{meanings-length}
use Rattle.book.specs.Shown.{book_concludes}
use Rattle.kan_calls.proofs.CallLaws.{run-gives, run-along, cut-one}
use Rattle.kan_calls.proofs.calls.call.Goals as goal

pub split_at-requires : goal.split_at-requires
split_at-requires g c =
    let a = c.args in
    let ss = g.E.Earlier.states a.earlier.now in
    let gives = c.requires.right.0 in
    let premises = c.as_slice-3.ensures.value ∙ c.followed-premises.ensures ∙ ap (λ z. z ++ c.as_slice.result.now) c.of.ensures ∙ ap (λ z. a.ctx.0 ∷ z) c.as_slice.ensures.value in
    let h = run-along ss a.book.now a.rows.now a.outs.now _ _ _ _ gives c.as_slice-2.ensures.value premises c.requires.right.1 in
    let nodes = meanings-length (book_concludes c.run.new.book) c.in_ok-nodes.nodes gives (c.in_ok-nodes.ensures.concludes gives h) in
    let outs = run-gives ss a.book.now a.rows.now a.outs.now _ _ gives h in
    let same = ap length c.as_slice-4.ensures.value in
    let some = c.requires.some in
    omega (arith, nodes, outs, same, some)

pub returns-clause-gives : goal.returns-clause-gives
returns-clause-gives g c = λ gives start.
    let a = c.args in
    let ss = g.E.Earlier.states a.earlier.now in
    let premises = c.as_slice-3.ensures.value ∙ c.followed-premises.ensures ∙ ap (λ z. z ++ c.as_slice.result.now) c.of.ensures ∙ ap (λ z. a.ctx.0 ∷ z) c.as_slice.ensures.value in
    let h = run-along ss a.book.now a.rows.now a.outs.now _ _ _ _ gives c.as_slice-2.ensures.value premises start in
    let concluded = c.in_ok-nodes.ensures.concludes gives h in
    let nodes = meanings-length (book_concludes c.run.new.book) c.in_ok-nodes.nodes gives concluded in
    let outs = run-gives ss a.book.now a.rows.now a.outs.now _ _ gives h in
    let whole = ap length c.as_slice-4.ensures.value in
    let some = c.requires.some in
    let cut = cut-one c.as_slice-4.result.now c.split_at.result.0.now c.of-2.result (omega (arith, nodes, outs, whole, some)) c.split_at.ensures.front (c.of-2.ensures ∙ c.split_at.ensures.back) in
    ap (meanings (book_concludes c.run.new.book)) (cut ∙ c.as_slice-4.ensures.value) ∙ concluded
