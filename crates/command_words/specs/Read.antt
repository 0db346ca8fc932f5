-- What the code's words are.
use Rattle.std.specs.Prelude.{ℕ, List, Option}
use Rattle.std.specs.Option.{option_map}
use denote.Ref.{Bor}
use Rattle.command_words.specs.declared.commands.Command.{Command as ReadCommand}
use Rattle.command_words.specs.declared.commands.Command.TheVariants as read
use Rattle.command_words.specs.Words.{Command, Check, Replay, Normal, Prompt, Make}

abbrev pub value : Option (Bor (List ℕ)) → Option (List ℕ)
value = option_map (λ w. w.now)

abbrev pub command_read : ReadCommand → Command
command_read (read.Check module_ turns json) = Check module_.now turns json
command_read (read.Replay file of) = Replay file.now (value of)
command_read (read.Normal module_ name turns) = Normal module_.now name.now turns
command_read (read.Prompt module_ turns) = Prompt module_.now turns
command_read (read.Make count) = Make count
