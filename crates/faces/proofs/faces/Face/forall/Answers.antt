use Rattle.std.proofs.Common.{◌≡◌, List, [], ◌∷◌, ◌++◌, ap, ◌∙◌}
use Rattle.std.proofs.lemmas.Bool.{both_ways}
use Rattle.std.proofs.lemmas.List.{take_all}
use Rattle.std.proofs.lemmas.Result.{IfOk-weaker}
use Rattle.antichains.specs.Antichains.{IsWithin}
use Rattle.points.specs.Points.{Point, with_free}
use Rattle.faces.specs.declared.equations.Equation.{Equation}
use Rattle.faces.specs.Faces.{face_truth, LacksName}
use Rattle.faces.proofs.Joined.{consistent_at}
use Rattle.faces.proofs.Moved.{moved_none, moved_kept, moved_lost, free_kept, free_lost, lacks_within}
use Rattle.faces.proofs.faces.Face.forall.Goals as goal
use Rattle.faces.proofs.faces.Face.forall.Goals.{then-not-has_name+in_ok-clone+in_ok-push, else-not-has_name}

pub loop-conj-init : goal.loop-conj-init
loop-conj-init c = rw c.new-conjs.ensures.items (moved_none (with_free c.args.name) c.args.name)

pub loop-conj-preserved : goal.loop-conj-preserved
loop-conj-preserved c =
    let consistent = consistent_at c.self.inside.conjs c.products-conj-items.result.now c.loop-conj.conj-index c.conj-item.result c.self.invariant c.products-conj-items.ensures.value c.loop-conj-test.true c.conj-item.is in
    elim c.if-not-has_name.branch [
      | then-not-has_name+in_ok-clone+in_ok-push w ↦
          let new : c.if-not-has_name.conjs.items ≡ c.loop-conj.conjs.items ++ c.conj-item.result ∷ [] = ap (λ v. v.items) w.conjs-is ∙ w.in_ok-push.ensures.items ∙ ap (λ conj. c.loop-conj.conjs.items ++ conj ∷ []) w.in_ok-clone.ensures.cases in
          moved_kept (with_free c.args.name) c.args.name c.loop-conj.conjs.items c.if-not-has_name.conjs.items c.products-conj-items.result.now c.loop-conj.conj-index c.conj-item.result c.conj-item.result c.loop-conj.invariant c.loop-conj-test.true c.conj-item.is
          (free_kept c.args.name c.conj-item.result consistent
          (λ h. both_ways c.has_name.result w.if-not-has_name.true (c.has_name.ensures.1 h)))
          new
      | else-not-has_name w ↦
          let same : c.if-not-has_name.conjs.items ≡ c.loop-conj.conjs.items = ap (λ v. v.items) w.conjs-is in
          rw same
          (moved_lost (with_free c.args.name) c.args.name c.loop-conj.conjs.items c.products-conj-items.result.now c.loop-conj.conj-index c.conj-item.result c.loop-conj.invariant c.loop-conj-test.true c.conj-item.is
          (free_lost c.args.name c.conj-item.result (c.has_name.ensures.0 w.if-not-has_name.false)))
    ]

pub from_conjs-requires : goal.from_conjs-requires
from_conjs-requires c = c.loop-conj.invariant.consistent

pub returns-clause-truth : goal.returns-clause-truth
returns-clause-truth c =
    let Face : Type 0 = List (List Equation) in
    let Says : Face → Type 0 = λ face. (x : Point) → face_truth face x ≡ face_truth c.loop-conj.conjs.items x in
    let Moved : Face → Type 0 = λ face. (x : Point) → face_truth face x ≡ face_truth c.args.self.now (with_free c.args.name x) in
    let all = take_all c.loop-conj.conj-index c.products-conj-items.result.now c.loop-conj-test.false ∙ c.products-conj-items.ensures.value ∙ c.self.view_is in
    let done = rw all at c.loop-conj.invariant in
    IfOk-weaker c.from_conjs.result Says Moved (λ face says x. says x ∙ done.truth x) c.from_conjs.ensures.truth

pub returns-clause-gone : goal.returns-clause-gone
returns-clause-gone c =
    let Face : Type 0 = List (List Equation) in
    let Among : Face → Type 0 = λ face. IsWithin face c.loop-conj.conjs.items in
    IfOk-weaker c.from_conjs.result Among (LacksName c.args.name)
    (λ face among. lacks_within c.args.name face c.loop-conj.conjs.items among c.loop-conj.invariant.lacks)
    c.from_conjs.ensures.among
