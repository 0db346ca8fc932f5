use Rattle.recipes.proofs.Ties.{rule-pattern}
use Rattle.recipes.proofs.rules_are_their_patterns.Goals as goal

pub returns : goal.returns
returns c = rule-pattern
