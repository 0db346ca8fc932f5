use Rattle.std.proofs.Common.{◌≡◌, refl, subst}
use Rattle.host_io.specs.Seen.{seen_files, seen_sink, seen_source}
use Rattle.session.specs.Answers.{by_lines, once}
use Rattle.session.specs.Loaded.{IsProgram, IsRead, texts_of}
use Rattle.session.specs.Prompts.{IsBegun, PromptJob}
use Rattle.session.proofs.JobLaws.{same_files}
use Rattle.session.proofs.PromptLaws.{not_read, not_typed, talked_over}
use Rattle.session.proofs.prompt_command.prompt.Given.{Over}
use Rattle.session.proofs.prompt_command.prompt.Goals as goal
use Rattle.session.proofs.prompt_command.prompt.Goals.{After-begin}

-- the module was read, and nothing else was done to the files
read : (g : Over) (c : After-begin g) → let see = seen_files g.F.Files.held g.F.Files.counts in IsRead (g.F.Files.held c.args.files.now) c.args.name.now (texts_of c.in-Ok-read.program) c.in-Ok-read.program.codes × (see c.read_program.new.files ≡ see c.args.files.now)
read g c =
    let see = seen_files g.F.Files.held g.F.Files.counts in
    let p = subst (IsProgram c.args.name.now (see c.args.files.now) (see c.read_program.new.files)) c.in-Ok-read.is c.in-Ok.ensures.program in
    (p.1, same_files (see c.read_program.new.files) (see c.args.files.now) c.in-Ok.ensures.stored.0 p.0)

pub returns-in-Err : goal.returns-in-Err
returns-in-Err g c =
    let see = seen_files g.F.Files.held g.F.Files.counts in
    let is = subst (IsProgram c.args.name.now (see c.args.files.now) (see c.read_program.new.files)) c.in-Err.is c.in-Ok.ensures.program in
    once (record {
      answer = λ in_memory. record {
        outcome = c.in-Err.told;
        may = (not_read _ c.args.name.now (see c.args.files.now) (see c.read_program.new.files) c.in-Err.told is.0 c.in-Ok.ensures.stored, is.1);
        printed = c.print.ensures.printed in_memory;
      };
      memory = c.print.ensures.memory;
      stored = c.in-Ok.ensures.stored;
      read = refl;
    })

pub returns : goal.returns
returns g c =
    let see = seen_files g.F.Files.held g.F.Files.counts in
    let r = read g ((goal.at.returns g c).After-begin) in
    once (record {
      answer = λ in_memory. record {
        outcome = c.in-Told.told;
        may = not_typed c.args.name.now c.args.turns (see c.args.files.now) (see c.read_program.new.files) c.in-Ok-read.program c.in-Told.told r.0 r.1 (subst (IsBegun c.args.name.now c.args.turns c.in-Ok-read.program) c.in-Told.is c.in-Ok-begin.ensures);
        printed = c.print-in-Told.ensures.printed in_memory;
      };
      memory = c.print-in-Told.ensures.memory;
      stored = c.in-Ok.ensures.stored;
      read = refl;
    })

pub returns-in-Typed : goal.returns-in-Typed
returns-in-Typed g c =
    let see = seen_files g.F.Files.held g.F.Files.counts in
    let source = seen_source g.I.Source.left g.I.Source.faults in
    let sink = seen_sink g.O.Sink.taken g.O.Sink.faults in
    let r = read g ((goal.at.returns-in-Typed g c).After-begin) in
    let begun = subst (IsBegun c.args.name.now c.args.turns c.in-Ok-read.program) c.in-Typed.is c.in-Ok-begin.ensures in
    by_lines c.args.name.now c.args.turns refl (record {
      texts = texts_of c.in-Ok-read.program;
      codes = c.in-Ok-read.program.codes;
      read = r.0;
      proved = begun.0;
      ending = c.talk-ending.result;
      answered = sink c.talk-ending.new.out;
      talked = talked_over c.in-Typed.prompt c.in-Ok-read.program c.args.turns (source c.args.input.now) (source c.talk-ending.new.input) (sink c.args.out.now) (sink c.talk-ending.new.out) c.talk-ending.result begun.1 begun.2 c.talk-ending.ensures.talked;
      closed = c.close.ensures;
      kept = r.1;
    })
