use Rattle.std.proofs.Common.{Some, None, refl}
use Rattle.side_conditions.specs.Readings.{IsValued}
use Rattle.side_conditions.specs.Shown.{reading_at}
use Rattle.side_conditions.proofs.CombinedLaws.{name_combined, nullary_combined, unary_combined, unary_unread, binary_combined, left_unread, right_unread}
use Rattle.side_conditions.proofs.walk.combined.Goals as goal
use Rattle.side_conditions.proofs.walk.combined.Goals.{in_default-via-in-Some+in_default, in_default-via-in_default}

pub returns-in_ok-of_name-in-Name : goal.returns-in_ok-of_name-in-Name
returns-in_ok-of_name-in-Name c =
    rw c.in-Name.is (name_combined (IsValued c.args.detail) (reading_at c.args.readings.now) c.args.count c.in-Name.level c.in_ok-of_name-in-Name.field-0 c.in_ok-of_name-in-Name.ensures)

pub returns-in_ok-of_nullary-in-Nullary : goal.returns-in_ok-of_nullary-in-Nullary
returns-in_ok-of_nullary-in-Nullary c =
    rw c.in-Nullary.is (nullary_combined (IsValued c.args.detail) (reading_at c.args.readings.now) c.args.count c.in-Nullary.op c.in_ok-of_nullary-in-Nullary.field-0 (c.in_ok-of_nullary-in-Nullary.ensures c.args.detail))

pub returns-in_ok-of_unary-in-Some : goal.returns-in_ok-of_unary-in-Some
returns-in_ok-of_unary-in-Some c =
    rw c.in-Unary.is
    (unary_combined (IsValued c.args.detail) (reading_at c.args.readings.now) c.args.count c.in-Unary.op c.in-Unary.kid (Some c.in-Some.kid.now) c.in-Some.kid.now c.in_ok-of_unary-in-Some.field-0
    c.in-Some.ensures refl (c.in_ok-of_unary-in-Some.ensures c.args.detail))

pub returns-in-None : goal.returns-in-None
returns-in-None c = rw c.in-Unary.is (unary_unread (IsValued c.args.detail) (reading_at c.args.readings.now) c.args.count c.in-Unary.op c.in-Unary.kid None c.in-None.ensures refl)

pub returns-in_ok-of_binary-in-Some-Some : goal.returns-in_ok-of_binary-in-Some-Some
returns-in_ok-of_binary-in-Some-Some c =
    rw c.in-Binary.is
    (binary_combined (IsValued c.args.detail) (reading_at c.args.readings.now) c.args.count c.in-Binary.op c.in-Binary.left c.in-Binary.right (Some c.in-Some-Some.left.now) (Some c.in-Some-Some.right.now) c.in-Some-Some.left.now c.in-Some-Some.right.now c.in_ok-of_binary-in-Some-Some.field-0
    c.in-Some-Some.ensures refl c.in-Some-Some.ensures' refl (c.in_ok-of_binary-in-Some-Some.ensures c.args.detail))

pub returns-in_default : goal.returns-in_default
returns-in_default c =
    rw c.in-Binary.is
    (elim c.in_default.branch [
      | in_default-via-in-Some+in_default w ↦ right_unread (IsValued c.args.detail) (reading_at c.args.readings.now) c.args.count c.in-Binary.op c.in-Binary.left c.in-Binary.right None w.in_default.ensures' refl
      | in_default-via-in_default w ↦ left_unread (IsValued c.args.detail) (reading_at c.args.readings.now) c.args.count c.in-Binary.op c.in-Binary.left c.in-Binary.right None w.in_default.ensures refl
    ])
