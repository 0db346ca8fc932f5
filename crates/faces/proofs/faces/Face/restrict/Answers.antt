use Rattle.std.proofs.Common.{◌≡◌, List, ap, ◌∙◌}
use Rattle.std.proofs.lemmas.Bool.{both_ways}
use Rattle.std.proofs.lemmas.List.{take_all}
use Rattle.std.proofs.lemmas.Result.{IfOk-weaker}
use Rattle.antichains.specs.Antichains.{IsWithin}
use Rattle.points.specs.Points.{Point, with_end}
use Rattle.faces.specs.declared.equations.Equation.{Equation}
use Rattle.faces.specs.Faces.{face_truth, LacksName}
use Rattle.faces.proofs.Joined.{consistent_at}
use Rattle.faces.proofs.Moved.{moved_none, moved_kept, moved_lost, end_kept, end_lost, lacks_within}
use Rattle.faces.proofs.faces.Face.restrict.Goals as goal
use Rattle.faces.proofs.faces.Face.restrict.Goals.{then-not-contains+in_ok-without+in_ok-push, else-not-contains}

pub loop-conj-init : goal.loop-conj-init
loop-conj-init c = rw c.new-conjs.ensures.items (moved_none (with_end c.args.name c.args.end) c.args.name)

pub loop-conj-preserved : goal.loop-conj-preserved
loop-conj-preserved c =
    let consistent = consistent_at c.self.inside.conjs c.products-conj-items.result.now c.loop-conj.conj-index c.conj-item.result c.self.invariant c.products-conj-items.ensures.value c.loop-conj-test.true c.conj-item.is in
    let found = rw c.opposite.ensures at c.contains.ensures in
    elim c.if-not-contains.branch [
      | then-not-contains+in_ok-without+in_ok-push w ↦
          moved_kept (with_end c.args.name c.args.end) c.args.name c.loop-conj.conjs.items c.if-not-contains.conjs.items c.products-conj-items.result.now c.loop-conj.conj-index c.conj-item.result w.in_ok-without.field-0 c.loop-conj.invariant c.loop-conj-test.true c.conj-item.is
          (end_kept c.args.name c.args.end c.conj-item.result w.in_ok-without.field-0 consistent w.in_ok-without.ensures
          (λ h. both_ways c.contains.result w.if-not-contains.true (found.1 h)))
          (ap (λ v. v.items) w.conjs-is ∙ w.in_ok-push.ensures.items)
      | else-not-contains w ↦
          let same : c.if-not-contains.conjs.items ≡ c.loop-conj.conjs.items = ap (λ v. v.items) w.conjs-is in
          rw same
          (moved_lost (with_end c.args.name c.args.end) c.args.name c.loop-conj.conjs.items c.products-conj-items.result.now c.loop-conj.conj-index c.conj-item.result c.loop-conj.invariant c.loop-conj-test.true c.conj-item.is
          (end_lost c.args.name c.args.end c.conj-item.result (found.0 w.if-not-contains.false)))
    ]

pub from_conjs-requires : goal.from_conjs-requires
from_conjs-requires c = c.loop-conj.invariant.consistent

pub returns-clause-truth : goal.returns-clause-truth
returns-clause-truth c =
    let Face : Type 0 = List (List Equation) in
    let Says : Face → Type 0 = λ face. (x : Point) → face_truth face x ≡ face_truth c.loop-conj.conjs.items x in
    let Moved : Face → Type 0 = λ face. (x : Point) → face_truth face x ≡ face_truth c.args.self.now (with_end c.args.name c.args.end x) in
    let all = take_all c.loop-conj.conj-index c.products-conj-items.result.now c.loop-conj-test.false ∙ c.products-conj-items.ensures.value ∙ c.self.view_is in
    let done = rw all at c.loop-conj.invariant in
    IfOk-weaker c.from_conjs.result Says Moved (λ face says x. says x ∙ done.truth x) c.from_conjs.ensures.truth

pub returns-clause-gone : goal.returns-clause-gone
returns-clause-gone c =
    let Face : Type 0 = List (List Equation) in
    let Among : Face → Type 0 = λ face. IsWithin face c.loop-conj.conjs.items in
    IfOk-weaker c.from_conjs.result Among (LacksName c.args.name)
    (λ face among. lacks_within c.args.name face c.loop-conj.conjs.items among c.loop-conj.invariant.lacks)
    c.from_conjs.ensures.among
