use Rattle.clap.specs.Words.{found_of, rows_of}
use Rattle.command_words.proofs.MatchLaws.{no_subcommand, subcommand_met}
use Rattle.command_words.proofs.commands.command_in.Goals as goal

pub returns-in-Some : goal.returns-in-Some
returns-in-Some c =
    rw (subcommand_met c.args.matches.now c.in-Some.name.now (rows_of (found_of c.in-Some.found.now)) c.in-Some.ensures.name c.in-Some.ensures.rows) c.command_named.ensures

pub returns-in-None : goal.returns-in-None
returns-in-None c = rw (no_subcommand c.args.matches.now c.in-None.ensures.variant)
