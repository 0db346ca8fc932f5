use Rattle.substitution.proofs.ThenLaws.{apply-id, apply-apply, apply-shift_by, look-then, act_alike-from_look}
use Rattle.substitution.proofs.laws_of_apply.Goals as goal

pub returns : goal.returns
returns c = record {
  apply_id = apply-id;
  apply_apply = apply-apply;
  apply_shift_by = apply-shift_by;
  look_then = look-then;
  look_decides = act_alike-from_look;
}
