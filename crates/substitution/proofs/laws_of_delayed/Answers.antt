use Rattle.substitution.proofs.Closures.{closed-make, kid_at-closed_kids, trees-from_kid_at, closed-apply, closed-raise, closed-var_below, closed-var_pushed, closed-var_above, closed-var_past}
use Rattle.substitution.proofs.laws_of_delayed.Goals as goal

pub returns : goal.returns
returns c = record {
  of_make = closed-make;
  of_kid = kid_at-closed_kids;
  kids_decide = trees-from_kid_at;
  of_apply = closed-apply;
  of_raise = closed-raise;
  below = closed-var_below;
  pushed = closed-var_pushed;
  above = closed-var_above;
  past = closed-var_past;
}
