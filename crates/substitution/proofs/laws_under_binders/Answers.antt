use Rattle.substitution.proofs.BinderLaws.{apply-at, at-apply_lift, apply-weaken, at-weaken, weaken-apply, apply_under-lift_by, apply_under-apply_under}
use Rattle.substitution.proofs.RaiseLaws.{apply_under-shift_by}
use Rattle.substitution.proofs.laws_under_binders.Goals as goal

pub returns : goal.returns
returns c = record {
  apply_at = apply-at;
  at_apply_lift = at-apply_lift;
  apply_weaken = apply-weaken;
  at_weaken = at-weaken;
  weaken_apply = weaken-apply;
  apply_under_lift_by = apply_under-lift_by;
  apply_under_apply_under = apply_under-apply_under;
  apply_under_shift_by = apply_under-shift_by;
}
