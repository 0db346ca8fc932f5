use Rattle.std.proofs.Common.{◌≡◌, subst, refl, Ok, Err}
use Rattle.host_io.specs.Seen.{seen_files}
use Rattle.resolver.specs.Resolved.{defs_in}
use Rattle.session.specs.Loaded.{IsProgram, IsRead, texts_of}
use Rattle.session.specs.Jobs.{CarriesOut}
use Rattle.session.specs.Checks.{CheckJob}
use Rattle.session.proofs.CheckLaws.{check_uncounted}
use Rattle.session.proofs.JobLaws.{answered, left_by, same_files}
use Rattle.session.proofs.check_command.check.Given.{Over}
use Rattle.session.proofs.check_command.check.Goals as goal
use Rattle.session.proofs.check_command.check.Goals.{After-check_job}

-- the module was read, and nothing else was done to the files
read : (g : Over) (c : After-check_job g) → let see = seen_files g.F.Files.held g.F.Files.counts in IsRead (g.F.Files.held c.args.files.now) c.args.name.now (texts_of c.in-Ok.program) c.in-Ok.program.codes × (see c.read_program.new.files ≡ see c.args.files.now)
read g c =
    let see = seen_files g.F.Files.held g.F.Files.counts in
    let p = subst (IsProgram c.args.name.now (see c.args.files.now) (see c.read_program.new.files)) c.in-Ok.is c.in_ok-program.ensures.program in
    (p.1, same_files (see c.read_program.new.files) (see c.args.files.now) c.in_ok-program.ensures.stored.0 p.0)

pub returns-in_err-carry_out-clause-left : goal.returns-in_err-carry_out-clause-left
returns-in_err-carry_out-clause-left g c =
    let see = seen_files g.F.Files.held g.F.Files.counts in
    let r = read g ((goal.at.returns-in_err-carry_out-clause-left g c).After-check_job) in
    let does = subst (CarriesOut c.in_ok-job.job (see c.read_program.new.files) (see c.carry_out.new.files)) c.in_err-carry_out.was c.carry_out.ensures in
    λ err. left_by (CheckJob c.args.name.now c.args.turns) c.args.name.now (see c.args.files.now) (see c.read_program.new.files) (see c.carry_out.new.files) (texts_of c.in-Ok.program) c.in-Ok.program.codes r.1 r.0 c.in_ok-job.job c.in_ok-job.ensures
    (Err c.in_err-carry_out.field-0.0) does refl

pub returns-clause-answer : goal.returns-clause-answer
returns-clause-answer g c =
    let see = seen_files g.F.Files.held g.F.Files.counts in
    let r = read g ((goal.at.returns-clause-answer g c).After-check_job) in
    let plain = check_uncounted c.args.name.now c.args.turns (texts_of c.in-Ok.program) (defs_in c.in-Ok.program.codes) c.in_ok-job.job c.in_ok-job.ensures in
    answered (CheckJob c.args.name.now c.args.turns) c.args.name.now (see c.args.files.now) (see c.read_program.new.files) (see c.carry_out.new.files) (texts_of c.in-Ok.program) c.in-Ok.program.codes r.1 r.0 c.in_ok-job.job c.in_ok-job.ensures
    plain (Ok c.in_ok-carry_out.field-0) c.in_ok-carry_out.ensures
