use Rattle.std.proofs.Common.{[], refl}
use Rattle.recipes.proofs.Soundness.{derives-sound}
use Rattle.pattern_sides.specs.Follows.{follows}
use Rattle.pattern_sides.proofs.SideLaws.{follows-sound}
use Rattle.presupposed_tests.specs.Derived.{conversions_statement, equal_numbers_statement, made_and_used_statement, pushed_entry_statement}
use Rattle.presupposed_tests.specs.declared.conversions.TheConstants.{CONVERSIONS, CONVERSIONS_GIVES}
use Rattle.presupposed_tests.specs.declared.equal_numbers.TheConstants.{EQUAL_NUMBERS, EQUAL_NUMBERS_GIVES}
use Rattle.presupposed_tests.specs.declared.made_and_used.TheConstants.{MADE_AND_USED, MADE_AND_USED_GIVES}
use Rattle.presupposed_tests.specs.declared.pushed_entry.TheConstants.{PUSHED_ENTRY, PUSHED_ENTRY_GIVES}
use Rattle.presupposed_tests.proofs.derived.terms_are_derived.Goals as goal

pub returns-clause-conversions : goal.returns-clause-conversions
returns-clause-conversions c = derives-sound follows follows-sound [] conversions_statement CONVERSIONS.now CONVERSIONS_GIVES.now refl

pub returns-clause-pushed_entry : goal.returns-clause-pushed_entry
returns-clause-pushed_entry c = derives-sound follows follows-sound [] pushed_entry_statement PUSHED_ENTRY.now PUSHED_ENTRY_GIVES.now refl

pub returns-clause-made_and_used : goal.returns-clause-made_and_used
returns-clause-made_and_used c = derives-sound follows follows-sound [] made_and_used_statement MADE_AND_USED.now MADE_AND_USED_GIVES.now refl

pub returns-clause-equal_numbers : goal.returns-clause-equal_numbers
returns-clause-equal_numbers c = derives-sound follows follows-sound [] equal_numbers_statement EQUAL_NUMBERS.now EQUAL_NUMBERS_GIVES.now refl
