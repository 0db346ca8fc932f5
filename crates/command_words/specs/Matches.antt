-- What is read of what clap found.
use Rattle.std.specs.Prelude.{List, Option, None, codes, if◌then◌else◌}
use Rattle.std.specs.Str.{bytes_eq}
use Rattle.clap.specs.Walk.{Row, Text, first_of}
use Rattle.command_words.specs.Words.{Command, check_words, is_true, make_words, normal_words}
use Rattle.command_words.specs.Words.{prompt_words, replay_words, turns_of}

abbrev pub check_found : List Row → Option Command
check_found rows = check_words (first_of (codes "module") rows)
    (turns_of (first_of (codes "turns") rows)) (is_true (first_of (codes "json") rows))

abbrev pub replay_found : List Row → Option Command
replay_found rows = replay_words (first_of (codes "file") rows) (first_of (codes "of") rows)

abbrev pub normal_found : List Row → Option Command
normal_found rows = normal_words (first_of (codes "module") rows) (first_of (codes "name") rows)
    (turns_of (first_of (codes "turns") rows))

abbrev pub prompt_found : List Row → Option Command
prompt_found rows =
    prompt_words (first_of (codes "module") rows) (turns_of (first_of (codes "turns") rows))

-- the command that a subcommand of this name is, by the values of its arguments
abbrev pub command_found : Text → List Row → Option Command
command_found name rows =
    if bytes_eq name (codes "check") then check_found rows
    else if bytes_eq name (codes "replay") then replay_found rows
    else if bytes_eq name (codes "normal") then normal_found rows
    else if bytes_eq name (codes "prompt") then prompt_found rows
    else if bytes_eq name (codes "make") then make_words (first_of (codes "count") rows)
    else None
