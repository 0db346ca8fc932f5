use Rattle.std.proofs.Common.{◌≡◌, IfOk, IsErr, Some, sym, subst}
use Rattle.std.specs.Option.{option_map}
use Rattle.host_io.specs.Seen.{seen_files}
use Rattle.command_words.specs.Read.{command_read}
use Rattle.command_words.specs.declared.commands.Command.TheVariants as read
use Rattle.session.specs.Answers.{MayAnswer, MayStore}
use Rattle.session.proofs.top.outcome_of.Goals as goal

pub returns-in-Check-clause-answer : goal.returns-in-Check-clause-answer
returns-in-Check-clause-answer g c =
    let see = seen_files g.F.Files.held g.F.Files.counts in
    let is : c.args.command ≡ Some (read.Check c.in-Check.module c.in-Check.turns c.in-Check.json) = search in
    subst (λ o. IfOk c.check.result (MayAnswer (option_map command_read o) (see c.args.files.now) (see c.check.new.files))) (sym is) c.check.ensures.answer

pub returns-in-Check-clause-stored : goal.returns-in-Check-clause-stored
returns-in-Check-clause-stored g c =
    let see = seen_files g.F.Files.held g.F.Files.counts in
    let is : c.args.command ≡ Some (read.Check c.in-Check.module c.in-Check.turns c.in-Check.json) = search in
    subst (λ o. MayStore see (option_map command_read o) (IsErr c.check.result) c.args.files.now c.check.new.files) (sym is) c.check.ensures.left

pub returns-in-Normal-clause-answer : goal.returns-in-Normal-clause-answer
returns-in-Normal-clause-answer g c =
    let see = seen_files g.F.Files.held g.F.Files.counts in
    let is : c.args.command ≡ Some (read.Normal c.in-Normal.module c.in-Normal.name c.in-Normal.turns) = search in
    subst (λ o. IfOk c.normal.result (MayAnswer (option_map command_read o) (see c.args.files.now) (see c.normal.new.files))) (sym is) c.normal.ensures.answer

pub returns-in-Normal-clause-stored : goal.returns-in-Normal-clause-stored
returns-in-Normal-clause-stored g c =
    let see = seen_files g.F.Files.held g.F.Files.counts in
    let is : c.args.command ≡ Some (read.Normal c.in-Normal.module c.in-Normal.name c.in-Normal.turns) = search in
    subst (λ o. MayStore see (option_map command_read o) (IsErr c.normal.result) c.args.files.now c.normal.new.files) (sym is) c.normal.ensures.left
