use Rattle.substitution.proofs.ActionLaws.{act_alike-push_shift_by, push_up-is_not-id, act_alike-push_drop, act_alike-then, act_alike-push, act_alike-lift}
use Rattle.substitution.proofs.laws_of_action.Goals as goal

pub returns : goal.returns
returns c = record {
  push_up = act_alike-push_shift_by 0;
  push_up_is_not_id = push_up-is_not-id;
  push_shift_by = act_alike-push_shift_by;
  push_drop = act_alike-push_drop;
  of_then = act_alike-then;
  of_push = act_alike-push;
  of_lift = act_alike-lift;
}
