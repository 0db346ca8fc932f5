use Rattle.std.proofs.Common.{◌∙◌}
use Rattle.std.proofs.lemmas.Bool.{both_ways}
use Rattle.std.proofs.lemmas.List.{take_all}
use Rattle.faces.proofs.Formulas.{one_so_far, one_more, never_one}
use Rattle.faces.proofs.faces.where_all_are_one.Goals as goal

pub loop-literal-init : goal.loop-literal-init
loop-literal-init c = rw c.new-conj.ensures one_so_far

pub loop-literal-preserved : goal.loop-literal-preserved
loop-literal-preserved c =
    let found = rw c.opposite.ensures at c.contains.ensures in
    one_more c.elements-literal-items.result.now c.loop-literal.literal-index _ c.of-equation.result c.loop-literal-test.true c.of-equation.ensures c.loop-literal.conj c.in_ok-conj.conj c.loop-literal.invariant
    (λ h. both_ways c.contains.result c.if-contains.false (found.1 h))
    (rw c.in_ok-single.ensures at c.in_ok-conj.ensures)

pub returns-then-contains : goal.returns-then-contains
returns-then-contains c =
    let found = rw c.opposite.ensures at c.contains.ensures in
    rw (← c.elements-literal-items.ensures.value)
    (never_one c.elements-literal-items.result.now c.loop-literal.literal-index _ c.of-equation.result c.loop-literal-test.true c.of-equation.ensures c.loop-literal.conj c.loop-literal.invariant
    (found.0 c.if-contains.true))

pub returns : goal.returns
returns c =
    let all = take_all c.loop-literal.literal-index c.elements-literal-items.result.now c.loop-literal-test.false ∙ c.elements-literal-items.ensures.value in
    let one = rw all at c.loop-literal.invariant in
    (one.consistent, one.truth)
