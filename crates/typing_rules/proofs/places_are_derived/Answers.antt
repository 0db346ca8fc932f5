use Rattle.std.proofs.Common.{[], refl}
use Rattle.recipes.proofs.Soundness.{derives-sound}
use Rattle.pattern_sides.specs.Follows.{follows}
use Rattle.pattern_sides.proofs.SideLaws.{follows-sound}
use Rattle.typing_rules.specs.Places.{no_entries_statement, with_entry_statement, with_name_statement, nothing_done_statement, past_variable_statement, past_name_statement, under_variable_statement, under_name_statement, composed_statement, pushed_statement, line_ends_statement, motive_start_statement, type_instance_statement, term_instance_statement, variable_statement}
use Rattle.typing_rules.specs.declared.no_entries.TheConstants.{NO_ENTRIES, NO_ENTRIES_GIVES}
use Rattle.typing_rules.specs.declared.with_entry.TheConstants.{WITH_ENTRY, WITH_ENTRY_GIVES}
use Rattle.typing_rules.specs.declared.with_name.TheConstants.{WITH_NAME, WITH_NAME_GIVES}
use Rattle.typing_rules.specs.declared.nothing_done.TheConstants.{NOTHING_DONE, NOTHING_DONE_GIVES}
use Rattle.typing_rules.specs.declared.past_variable.TheConstants.{PAST_VARIABLE, PAST_VARIABLE_GIVES}
use Rattle.typing_rules.specs.declared.past_name.TheConstants.{PAST_NAME, PAST_NAME_GIVES}
use Rattle.typing_rules.specs.declared.under_variable.TheConstants.{UNDER_VARIABLE, UNDER_VARIABLE_GIVES}
use Rattle.typing_rules.specs.declared.under_name.TheConstants.{UNDER_NAME, UNDER_NAME_GIVES}
use Rattle.typing_rules.specs.declared.composed.TheConstants.{COMPOSED, COMPOSED_GIVES}
use Rattle.typing_rules.specs.declared.pushed.TheConstants.{PUSHED, PUSHED_GIVES}
use Rattle.typing_rules.specs.declared.line_ends.TheConstants.{LINE_ENDS, LINE_ENDS_GIVES}
use Rattle.typing_rules.specs.declared.motive_start.TheConstants.{MOTIVE_START, MOTIVE_START_GIVES}
use Rattle.typing_rules.specs.declared.type_instance.TheConstants.{TYPE_INSTANCE, TYPE_INSTANCE_GIVES}
use Rattle.typing_rules.specs.declared.term_instance.TheConstants.{TERM_INSTANCE, TERM_INSTANCE_GIVES}
use Rattle.typing_rules.specs.declared.variable.TheConstants.{VARIABLE, VARIABLE_GIVES}
use Rattle.typing_rules.proofs.places_are_derived.Goals as goal

pub returns : goal.returns
returns c = record {
  no_entries = derives-sound follows follows-sound [] no_entries_statement NO_ENTRIES.now NO_ENTRIES_GIVES.now refl;
  with_entry = derives-sound follows follows-sound [] with_entry_statement WITH_ENTRY.now WITH_ENTRY_GIVES.now refl;
  with_name = derives-sound follows follows-sound [] with_name_statement WITH_NAME.now WITH_NAME_GIVES.now refl;
  nothing_done = derives-sound follows follows-sound [] nothing_done_statement NOTHING_DONE.now NOTHING_DONE_GIVES.now refl;
  past_variable = derives-sound follows follows-sound [] past_variable_statement PAST_VARIABLE.now PAST_VARIABLE_GIVES.now refl;
  past_name = derives-sound follows follows-sound [] past_name_statement PAST_NAME.now PAST_NAME_GIVES.now refl;
  under_variable = derives-sound follows follows-sound [] under_variable_statement UNDER_VARIABLE.now UNDER_VARIABLE_GIVES.now refl;
  under_name = derives-sound follows follows-sound [] under_name_statement UNDER_NAME.now UNDER_NAME_GIVES.now refl;
  composed = derives-sound follows follows-sound [] composed_statement COMPOSED.now COMPOSED_GIVES.now refl;
  pushed = derives-sound follows follows-sound [] pushed_statement PUSHED.now PUSHED_GIVES.now refl;
  line_ends = derives-sound follows follows-sound [] line_ends_statement LINE_ENDS.now LINE_ENDS_GIVES.now refl;
  motive_start = derives-sound follows follows-sound [] motive_start_statement MOTIVE_START.now MOTIVE_START_GIVES.now refl;
  type_instance = derives-sound follows follows-sound [] type_instance_statement TYPE_INSTANCE.now TYPE_INSTANCE_GIVES.now refl;
  term_instance = derives-sound follows follows-sound [] term_instance_statement TERM_INSTANCE.now TERM_INSTANCE_GIVES.now refl;
  variable = derives-sound follows follows-sound [] variable_statement VARIABLE.now VARIABLE_GIVES.now refl;
}
