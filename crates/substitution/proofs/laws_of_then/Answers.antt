use Rattle.substitution.proofs.ThenLaws.{then-assoc, id-then, then-id, push-then, up-then-push, shift_by-then-push, shift_by-then-shift_by}
use Rattle.substitution.proofs.BinderLaws.{drop-drop, lift-then, lift-then-push}
use Rattle.substitution.proofs.laws_of_then.Goals as goal

pub returns : goal.returns
returns c = record {
  then_assoc = then-assoc;
  id_then = id-then;
  then_id = then-id;
  push_then = push-then;
  up_then_push = up-then-push;
  shift_by_then_push = shift_by-then-push;
  shift_by_then_shift_by = shift_by-then-shift_by;
  drop_drop = drop-drop;
  lift_then = lift-then;
  lift_then_push = lift-then-push;
}
