use Rattle.std.proofs.Common.{[], refl}
use Rattle.recipes.proofs.Soundness.{derives-sound}
use Rattle.pattern_sides.specs.Follows.{follows}
use Rattle.pattern_sides.proofs.SideLaws.{follows-sound}
use Rattle.typing_rules.specs.Terms.{zero_term_statement, successor_term_statement, function_statement, applied_statement, pair_term_statement, first_statement, second_statement, path_term_statement, path_applied_statement, recursion_statement, transported_statement}
use Rattle.typing_rules.specs.declared.zero_term.TheConstants.{ZERO_TERM, ZERO_TERM_GIVES}
use Rattle.typing_rules.specs.declared.successor_term.TheConstants.{SUCCESSOR_TERM, SUCCESSOR_TERM_GIVES}
use Rattle.typing_rules.specs.declared.function.TheConstants.{FUNCTION, FUNCTION_GIVES}
use Rattle.typing_rules.specs.declared.applied.TheConstants.{APPLIED, APPLIED_GIVES}
use Rattle.typing_rules.specs.declared.pair_term.TheConstants.{PAIR_TERM, PAIR_TERM_GIVES}
use Rattle.typing_rules.specs.declared.first.TheConstants.{FIRST, FIRST_GIVES}
use Rattle.typing_rules.specs.declared.second.TheConstants.{SECOND, SECOND_GIVES}
use Rattle.typing_rules.specs.declared.path_term.TheConstants.{PATH_TERM, PATH_TERM_GIVES}
use Rattle.typing_rules.specs.declared.path_applied.TheConstants.{PATH_APPLIED, PATH_APPLIED_GIVES}
use Rattle.typing_rules.specs.declared.recursion.TheConstants.{RECURSION, RECURSION_GIVES}
use Rattle.typing_rules.specs.declared.transported.TheConstants.{TRANSPORTED, TRANSPORTED_GIVES}
use Rattle.typing_rules.proofs.terms_are_derived.Goals as goal

pub returns : goal.returns
returns c = record {
  zero_term = derives-sound follows follows-sound [] zero_term_statement ZERO_TERM.now ZERO_TERM_GIVES.now refl;
  successor_term = derives-sound follows follows-sound [] successor_term_statement SUCCESSOR_TERM.now SUCCESSOR_TERM_GIVES.now refl;
  function = derives-sound follows follows-sound [] function_statement FUNCTION.now FUNCTION_GIVES.now refl;
  applied = derives-sound follows follows-sound [] applied_statement APPLIED.now APPLIED_GIVES.now refl;
  pair_term = derives-sound follows follows-sound [] pair_term_statement PAIR_TERM.now PAIR_TERM_GIVES.now refl;
  first = derives-sound follows follows-sound [] first_statement FIRST.now FIRST_GIVES.now refl;
  second = derives-sound follows follows-sound [] second_statement SECOND.now SECOND_GIVES.now refl;
  path_term = derives-sound follows follows-sound [] path_term_statement PATH_TERM.now PATH_TERM_GIVES.now refl;
  path_applied = derives-sound follows follows-sound [] path_applied_statement PATH_APPLIED.now PATH_APPLIED_GIVES.now refl;
  recursion = derives-sound follows follows-sound [] recursion_statement RECURSION.now RECURSION_GIVES.now refl;
  transported = derives-sound follows follows-sound [] transported_statement TRANSPORTED.now TRANSPORTED_GIVES.now refl;
}
