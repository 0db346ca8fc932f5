use Rattle.std.proofs.Common.{◌≡◌, List, [], ◌∷◌, ◌++◌, ap, ◌∙◌}
use Rattle.std.proofs.lemmas.List.{take_all}
use Rattle.std.proofs.lemmas.Result.{IfOk-weaker}
use Rattle.points.specs.Points.{Point, valuation_of}
use Rattle.interval.specs.Forms.{form_value}
use Rattle.faces.specs.declared.equations.Equation.{Equation}
use Rattle.faces.specs.Faces.{face_truth}
use Rattle.faces.proofs.Formulas.{ones_so_far, ones_more, ones_same}
use Rattle.faces.proofs.faces.Face.where_one.Goals as goal
use Rattle.faces.proofs.faces.Face.where_one.Goals.{in-Some+in_ok-push, in_default}

pub loop-product-init : goal.loop-product-init
loop-product-init c = rw c.new-conjs.ensures.items ones_so_far

pub loop-product-preserved : goal.loop-product-preserved
loop-product-preserved c =
    elim c.match-branch-2.branch [
      | in-Some+in_ok-push w ↦
          let found = rw w.in-Some.is at c.in_ok-conj.ensures in
          let new : c.match-branch-2.conjs.items ≡ c.loop-product.conjs.items ++ w.in-Some.conj ∷ [] = ap (λ v. v.items) w.conjs-is ∙ w.in_ok-push.ensures.items in
          rw new
          (ones_more c.products-product-items.result.now c.loop-product.product-index c.product-item.result c.loop-product-test.true c.product-item.is c.loop-product.conjs.items w.in-Some.conj c.loop-product.invariant
          (record { consistent = found.0; truth = found.1 }))
      | in_default w ↦
          let never = rw w.in_default.is at c.in_ok-conj.ensures in
          let same : c.match-branch-2.conjs.items ≡ c.loop-product.conjs.items = ap (λ v. v.items) w.conjs-is in
          rw same
          (ones_same c.products-product-items.result.now c.loop-product.product-index c.product-item.result c.loop-product-test.true c.product-item.is c.loop-product.conjs.items c.loop-product.invariant never)
    ]

pub from_conjs-requires : goal.from_conjs-requires
from_conjs-requires c = c.loop-product.invariant.consistent

pub returns : goal.returns
returns c =
    let Face : Type 0 = List (List Equation) in
    let Says : Face → Type 0 = λ face. (x : Point) → face_truth face x ≡ face_truth c.loop-product.conjs.items x in
    let One : Face → Type 0 = λ face. (x : Point) → face_truth face x ≡ (form_value c.args.form.now (valuation_of x)).holds in
    let all = take_all c.loop-product.product-index c.products-product-items.result.now c.loop-product-test.false ∙ c.products-product-items.ensures.value in
    let done = rw all at c.loop-product.invariant in
    IfOk-weaker c.from_conjs.result Says One (λ face says x. says x ∙ done.truth x) c.from_conjs.ensures.truth
