use Rattle.std.proofs.Common.{◌≡◌, List, [], ◌∷◌, ◌++◌, take, ◌∙◌, ap}
use Rattle.std.proofs.lemmas.List.{take_all}
use Rattle.antichains.specs.Antichains.{IsWithin}
use Rattle.points.specs.Points.{Point}
use Rattle.faces.specs.declared.equations.Equation.{Equation}
use Rattle.faces.specs.Faces.{face_truth}
use Rattle.faces.specs.Meets.{IsMeetOutside}
use Rattle.faces.proofs.Joined.{item_at, if_ok_both}
use Rattle.faces.proofs.Meeting.{no_merges, enough_for_none, enough_of_none, merges_pushed, enough_pushed, enough_implied, enough_merged, enough_row, met_outside}
use Rattle.faces.proofs.faces.Face.meet_outside.Goals as goal
use Rattle.faces.proofs.faces.Face.meet_outside.Goals.{in-Some+in_ok-push, in_default}

pub loop-left-init : goal.loop-left-init
loop-left-init c = record {
  merges = rw c.new-conjs.ensures.items (no_merges c.args.excluded.now c.args.self.now c.args.other.now);
  rows = enough_for_none c.args.excluded.now c.args.other.now c.new-conjs.result.items;
}

pub loop-right-init : goal.loop-right-init
loop-right-init c = record {
  merges = c.loop-left.invariant.merges;
  rows = c.loop-left.invariant.rows;
  row = enough_of_none c.args.excluded.now (c.left-item.result ∷ []) c.loop-left.conjs.items;
}

pub loop-right-preserved : goal.loop-right-preserved
loop-right-preserved c =
    elim c.match-branch-2.branch [
      | in-Some+in_ok-push w ↦
          let merge = rw w.in-Some.is at c.in_ok-both.ensures in
          let new : c.match-branch-2.conjs.items ≡ c.loop-right.conjs.items ++ w.in-Some.both ∷ [] = ap (λ v. v.items) w.conjs-is ∙ w.in_ok-push.ensures.items in
          let in_left = item_at c.args.self.now c.products-left-items.result.now c.loop-left.left-index c.left-item.result (c.products-left-items.ensures.value ∙ c.self.view_is) c.loop-left-test.true c.left-item.is in
          let in_right = item_at c.args.other.now c.products-right-items.result.now c.loop-right.right-index c.right-item.result (c.products-right-items.ensures.value ∙ c.other.view_is) c.loop-right-test.true c.right-item.is in
          rw new
          (record {
            merges = merges_pushed c.args.excluded.now c.args.self.now c.args.other.now c.loop-right.conjs.items c.left-item.result c.right-item.result w.in-Some.both c.loop-right.invariant.merges in_left in_right merge;
            rows = enough_pushed c.args.excluded.now (take c.loop-left.left-index c.products-left-items.result.now) c.args.other.now c.loop-right.conjs.items w.in-Some.both c.loop-right.invariant.rows;
            row = enough_merged c.args.excluded.now c.products-right-items.result.now c.loop-right.right-index c.left-item.result c.right-item.result c.loop-right-test.true c.right-item.is c.loop-right.conjs.items w.in-Some.both c.loop-right.invariant.row merge.union;
          })
      | in_default w ↦
          let implied = rw w.in_default.is at c.in_ok-both.ensures in
          let same : c.match-branch-2.conjs.items ≡ c.loop-right.conjs.items = ap (λ v. v.items) w.conjs-is in
          rw same
          (record {
            merges = c.loop-right.invariant.merges;
            rows = c.loop-right.invariant.rows;
            row = enough_implied c.args.excluded.now c.products-right-items.result.now c.loop-right.right-index c.left-item.result c.right-item.result c.loop-right-test.true c.right-item.is c.loop-right.conjs.items c.loop-right.invariant.row implied;
          })
    ]

pub loop-left-preserved : goal.loop-left-preserved
loop-left-preserved c =
    let right = c.products-right-items.ensures.value ∙ c.other.view_is in
    record {
      merges = c.loop-right.invariant.merges;
      rows = rw (← right)
          (enough_row c.args.excluded.now c.products-left-items.result.now c.products-right-items.result.now c.loop-right.conjs.items c.loop-left.left-index c.loop-right.right-index c.left-item.result c.loop-left-test.true c.left-item.is c.loop-right-test.false
          (rw right c.loop-right.invariant.rows)
          c.loop-right.invariant.row);
    }

pub from_conjs-requires : goal.from_conjs-requires
from_conjs-requires c = c.loop-left.invariant.merges.consistent

pub returns : goal.returns
returns c =
    let Face : Type 0 = List (List Equation) in
    let Says : Face → Type 0 = λ face. (x : Point) → face_truth face x ≡ face_truth c.loop-left.conjs.items x in
    let Among : Face → Type 0 = λ face. IsWithin face c.loop-left.conjs.items in
    let all = take_all c.loop-left.left-index c.products-left-items.result.now c.loop-left-test.false ∙ c.products-left-items.ensures.value ∙ c.self.view_is in
    let rows = rw all at c.loop-left.invariant.rows in
    if_ok_both c.from_conjs.result Says Among (IsMeetOutside c.args.excluded.now c.args.self.now c.args.other.now)
    (met_outside c.args.excluded.now c.args.self.now c.args.other.now c.loop-left.conjs.items c.loop-left.invariant.merges rows)
    c.from_conjs.ensures.truth c.from_conjs.ensures.among
