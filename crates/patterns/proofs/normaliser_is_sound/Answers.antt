use Rattle.patterns.proofs.Soundness.{filled-tree_of, filled-subst_of, filled-context_of, filled-judged_of, unknown-fits}
use Rattle.patterns.proofs.normaliser_is_sound.Goals as goal

pub returns : goal.returns
returns c = record {
  of_trees = filled-tree_of;
  of_substs = filled-subst_of;
  of_contexts = filled-context_of;
  of_judgements = filled-judged_of;
  of_unknown = unknown-fits;
}
