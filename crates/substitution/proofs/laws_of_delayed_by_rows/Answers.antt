use Rattle.std.proofs.Common.{sym}
use Rattle.substitution.proofs.Closures.{closed-var_push_here, closed-var_push_next, closed-var_shift_by, closed-then, apply-then_all}
use Rattle.substitution.proofs.laws_of_delayed_by_rows.Goals as goal

pub returns : goal.returns
returns c = record {
  push_here = closed-var_push_here;
  push_next = closed-var_push_next;
  shift_by = closed-var_shift_by;
  one_after_another = λ t n d e env. sym (closed-then t n d e env);
  all_at_once = apply-then_all;
}
