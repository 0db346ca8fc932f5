use Rattle.patterns.proofs.Soundness.{same_tree-sound, same_subst-sound, same_context-sound, same_judgement-sound, same_judgements-sound, same_condition-sound, same_rule-sound}
use Rattle.patterns.proofs.tests_are_sound.Goals as goal

pub returns : goal.returns
returns c = record {
  of_trees = same_tree-sound;
  of_substs = same_subst-sound;
  of_contexts = same_context-sound;
  of_judgements = same_judgement-sound;
  of_lists = same_judgements-sound;
  of_conditions = same_condition-sound;
  of_rules = same_rule-sound;
}
