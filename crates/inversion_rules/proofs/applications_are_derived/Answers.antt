use Rattle.std.proofs.Common.{[], refl}
use Rattle.recipes.proofs.Soundness.{derives-sound}
use Rattle.pattern_sides.specs.Follows.{follows}
use Rattle.pattern_sides.proofs.SideLaws.{follows-sound}
use Rattle.inversion_rules.specs.Statements.{beta_asks_statement, beta_answers_statement}
use Rattle.inversion_rules.specs.declared.beta_asks.TheConstants.{BETA_ASKS, BETA_ASKS_GIVES}
use Rattle.inversion_rules.specs.declared.beta_answers.TheConstants.{BETA_ANSWERS, BETA_ANSWERS_GIVES}
use Rattle.inversion_rules.proofs.applications_are_derived.Goals as goal

pub returns : goal.returns
returns c = record {
  beta_asks = derives-sound follows follows-sound [] beta_asks_statement BETA_ASKS.now BETA_ASKS_GIVES.now refl;
  beta_answers = derives-sound follows follows-sound [] beta_answers_statement BETA_ANSWERS.now BETA_ANSWERS_GIVES.now refl;
}
