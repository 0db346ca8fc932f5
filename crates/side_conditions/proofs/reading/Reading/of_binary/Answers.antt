use Rattle.std.proofs.Common.{◌&&◌, ap₂}
use Rattle.side_conditions.proofs.CombineLaws.{min_reading, max_reading, meet_reading, join_reading, no_face, faces_unread, formula_kind, face_kind}
use Rattle.side_conditions.proofs.reading.Reading.of_binary.Goals as goal
use Rattle.side_conditions.proofs.reading.Reading.of_binary.Goals.{in_default-3-via-in-Some+in_default, in_default-3-via-in_default, in_default-4-via-in-Some+in_default, in_default-4-via-in_default}

pub returns-in_ok-meet-in-Some-Some : goal.returns-in_ok-meet-in-Some-Some
returns-in_ok-meet-in-Some-Some c = rw c.in-Min.is (λ d G s t l r. (
  ap₂ ◌&&◌ (formula_kind c.args.left.now c.in-Some-Some.left.now c.in-Some-Some.ensures G s l.0) (formula_kind c.args.right.now c.in-Some-Some.right.now c.in-Some-Some.ensures' G t r.0),
  λ v.
      min_reading c.args.left.now c.args.right.now c.in-Some-Some.left.now c.in-Some-Some.right.now c.in_ok-meet-in-Some-Some.field-0 c.in-Some-Some.ensures c.in-Some-Some.ensures' c.in_ok-meet-in-Some-Some.ensures G s t (l.1 v) (r.1 v),
))

pub returns-in_ok-join-in-Some-Some-2 : goal.returns-in_ok-join-in-Some-Some-2
returns-in_ok-join-in-Some-Some-2 c = rw c.in-Max.is (λ d G s t l r. (
  ap₂ ◌&&◌ (formula_kind c.args.left.now c.in-Some-Some-2.left.now c.in-Some-Some-2.ensures G s l.0) (formula_kind c.args.right.now c.in-Some-Some-2.right.now c.in-Some-Some-2.ensures' G t r.0),
  λ v.
      max_reading c.args.left.now c.args.right.now c.in-Some-Some-2.left.now c.in-Some-Some-2.right.now c.in_ok-join-in-Some-Some-2.field-0 c.in-Some-Some-2.ensures c.in-Some-Some-2.ensures' c.in_ok-join-in-Some-Some-2.ensures G s t (l.1 v) (r.1 v),
))

pub returns-in_ok-meet-in-Some-Some-3 : goal.returns-in_ok-meet-in-Some-Some-3
returns-in_ok-meet-in-Some-Some-3 c = rw c.in-Meet.is (λ d G s t l r. (
  ap₂ ◌&&◌ (face_kind c.args.left.now c.in-Some-Some-3.left.now c.in-Some-Some-3.ensures G s l.0) (face_kind c.args.right.now c.in-Some-Some-3.right.now c.in-Some-Some-3.ensures' G t r.0),
  λ v.
      meet_reading c.args.left.now c.args.right.now c.in-Some-Some-3.left.now c.in-Some-Some-3.right.now c.in_ok-meet-in-Some-Some-3.field-0 c.in-Some-Some-3.ensures c.in-Some-Some-3.ensures' c.in_ok-meet-in-Some-Some-3.ensures G s t (l.1 v) (r.1 v),
))

pub returns-in_ok-join-in-Some-Some-4 : goal.returns-in_ok-join-in-Some-Some-4
returns-in_ok-join-in-Some-Some-4 c = rw c.in-Join.is (λ d G s t l r. (
  ap₂ ◌&&◌ (face_kind c.args.left.now c.in-Some-Some-4.left.now c.in-Some-Some-4.ensures G s l.0) (face_kind c.args.right.now c.in-Some-Some-4.right.now c.in-Some-Some-4.ensures' G t r.0),
  λ v.
      join_reading c.args.left.now c.args.right.now c.in-Some-Some-4.left.now c.in-Some-Some-4.right.now c.in_ok-join-in-Some-Some-4.field-0 c.in-Some-Some-4.ensures c.in-Some-Some-4.ensures' c.in_ok-join-in-Some-Some-4.ensures G s t (l.1 v) (r.1 v),
))

pub returns-in_default-3 : goal.returns-in_default-3
returns-in_default-3 c = rw c.in-Meet.is (λ d G s t l r.
    elim c.in_default-3.branch [
      | in_default-3-via-in-Some+in_default w ↦ faces_unread G s t (λ f g. no_face c.args.right.now w.in_default-3.ensures' G t r.0 g)
      | in_default-3-via-in_default w ↦ faces_unread G s t (λ f g. no_face c.args.left.now w.in_default-3.ensures G s l.0 f)
    ])

pub returns-in_default-4 : goal.returns-in_default-4
returns-in_default-4 c = rw c.in-Join.is (λ d G s t l r.
    elim c.in_default-4.branch [
      | in_default-4-via-in-Some+in_default w ↦ faces_unread G s t (λ f g. no_face c.args.right.now w.in_default-4.ensures' G t r.0 g)
      | in_default-4-via-in_default w ↦ faces_unread G s t (λ f g. no_face c.args.left.now w.in_default-4.ensures G s l.0 f)
    ])
