use Rattle.patterns.proofs.NormalLaws.{filled-apply_normal, filled-after, filled-trimmed}
use Rattle.patterns.proofs.normal_terms_are_trees.Goals as goal

pub returns : goal.returns
returns c = record {
  apply = filled-apply_normal;
  then = filled-after;
  trim = filled-trimmed;
}
