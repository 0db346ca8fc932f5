use Rattle.substitution.proofs.RaiseLaws.{raise-zero, raise-raise, raise-raise_above, apply_under-raise, apply_under-raise_past}
use Rattle.substitution.proofs.laws_of_raise.Goals as goal

pub returns : goal.returns
returns c = record {
  raise_zero = raise-zero;
  raise_raise = raise-raise;
  raise_raise_above = raise-raise_above;
  apply_under_raise = apply_under-raise;
  apply_under_raise_past = apply_under-raise_past;
}
