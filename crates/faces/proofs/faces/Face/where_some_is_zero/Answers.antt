use Rattle.std.proofs.Common.{◌≡◌, List, [], ◌∷◌, ◌++◌, ap, ◌∙◌}
use Rattle.std.proofs.lemmas.List.{take_all}
use Rattle.std.proofs.lemmas.Result.{IfOk-weaker}
use Rattle.points.specs.Points.{Point, valuation_of}
use Rattle.interval.specs.Forms.{product_value}
use Rattle.faces.specs.declared.equations.Equation.{Equation}
use Rattle.faces.specs.Faces.{face_truth}
use Rattle.faces.proofs.Formulas.{zero_so_far, zero_more}
use Rattle.faces.proofs.faces.Face.where_some_is_zero.Goals as goal

pub loop-literal-init : goal.loop-literal-init
loop-literal-init c = rw c.in_ok-conjs.ensures.items zero_so_far

pub loop-literal-preserved : goal.loop-literal-preserved
loop-literal-preserved c =
    zero_more c.elements-literal-items.result.now c.loop-literal.literal-index _ c.of.result c.loop-literal.conjs.items c.push.new.self.items c.loop-literal-test.true c.of.ensures
    (c.in_ok-push.ensures.items ∙ ap (λ conj. c.loop-literal.conjs.items ++ conj ∷ []) c.in_ok-single.ensures)
    c.loop-literal.invariant

pub from_conjs-requires : goal.from_conjs-requires
from_conjs-requires c = c.loop-literal.invariant.consistent

pub returns : goal.returns
returns c =
    let Face : Type 0 = List (List Equation) in
    let Says : Face → Type 0 = λ face. (x : Point) → face_truth face x ≡ face_truth c.loop-literal.conjs.items x in
    let Zero : Face → Type 0 = λ face. (x : Point) → face_truth face x ≡ (product_value c.args.product.now (valuation_of x)).fails in
    let all = take_all c.loop-literal.literal-index c.elements-literal-items.result.now c.loop-literal-test.false ∙ c.elements-literal-items.ensures.value in
    let done = rw all at c.loop-literal.invariant in
    IfOk-weaker c.from_conjs.result Says Zero (λ face says x. says x ∙ done.truth x) c.from_conjs.ensures.truth
