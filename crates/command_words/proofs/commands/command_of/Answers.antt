use Rattle.std.proofs.Common.{◌≢◌, rules, ◌∙◌}
use Rattle.clap.specs.Words.{app_of, subcommand_rows_of}
use Rattle.clap.specs.declared.error.kind.ErrorKind.TheVariants.{OutOfMemory}
use Rattle.command_words.specs.Words.{texts}
use Rattle.command_words.proofs.CommandLaws.{found, refused}
use Rattle.command_words.proofs.commands.command_of.Goals as goal

pub returns-in-Ok : goal.returns-in-Ok
returns-in-Ok c =
    rw (found (app_of c.in_ok-ctt.field-0) (texts c.args.words.now) (subcommand_rows_of c.in-Ok.matches) c.in_ok-ctt.ensures c.in-Ok.ensures.kinds (λ simple. (c.in-Ok.ensures.matches simple).1))
    at c.command_in.ensures

pub returns : goal.returns
returns c =
    let other : c.kind.result ≢ OutOfMemory = search rules in
    refused (app_of c.in_ok-ctt.field-0) (texts c.args.words.now) c.in-Err.error c.in_ok-ctt.ensures c.in-Err.ensures.kinds (λ memory. other (c.kind.ensures ∙ memory))
