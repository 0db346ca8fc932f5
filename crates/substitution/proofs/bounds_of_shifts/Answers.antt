use Rattle.substitution.proofs.ShiftBounds.{shift-then, count_of-then, shift-then-fits, index-then_all-fits, index-step, index-fits}
use Rattle.substitution.proofs.bounds_of_shifts.Goals as goal

pub returns : goal.returns
returns c = record {
  shift = shift-then;
  count = count_of-then;
  one = shift-then-fits;
  all = index-then_all-fits;
  step = index-step;
  fits = index-fits;
}
