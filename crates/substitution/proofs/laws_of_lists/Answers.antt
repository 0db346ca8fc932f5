use Rattle.substitution.proofs.Closures.{closed-append, closed-raise_deeper, closed-shift_by_last, deeper-deeper, closed-lift_by, closed-id}
use Rattle.substitution.proofs.laws_of_lists.Goals as goal

pub returns : goal.returns
returns c = record {
  append = closed-append;
  raised = closed-raise_deeper;
  raised_last = closed-shift_by_last;
  deeper_twice = deeper-deeper;
  depth_is_lifting = closed-lift_by;
  of_id = closed-id;
}
