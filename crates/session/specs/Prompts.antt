-- What becomes of a prompt.
use Rattle.std.specs.Prelude.{◌≡◌, ℕ, List, None, codes}
use Rattle.host_io.specs.Seen.{SeenSink}
use Rattle.module_texts.specs.Texts.{Text}
use Rattle.linking.specs.Modules.{judgements}
use Rattle.codes.specs.declared.code.CodeDef.{CodeDef}
use Rattle.resolver.specs.Resolved.{defs_in}
use Rattle.dialogue.specs.declared.talking.Ending.{Ending}
use Rattle.dialogue.specs.declared.talking.Ending.TheVariants as ending
use Rattle.outcomes.specs.declared.refusal.Cause.TheVariants as cause
use Rattle.outcomes.specs.declared.outcome.Status.{Status}
use Rattle.outcomes.specs.declared.outcome.Status.TheVariants as status
use Rattle.outcomes.specs.declared.outcome.Outcome.{Outcome}
use Rattle.outcomes.specs.declared.outcome.Outcome.TheVariants as outcome
use Rattle.outcomes.specs.Outcomes.{plain_text}
use Rattle.outcomes.specs.Refusals.{refusal}
use Rattle.session.specs.declared.job.Job.{Job}
use Rattle.session.specs.declared.job.Job.TheVariants.{Tell, Store}
use Rattle.session.specs.declared.prompted.Prompt.{Prompt}
use Rattle.session.specs.declared.program.Program.{Program}
use Rattle.session.specs.declared.prompt_command.Begun.{Begun}
use Rattle.session.specs.declared.prompt_command.Begun.TheVariants as begun
use Rattle.session.specs.Checks.{OtherJob}
use Rattle.session.specs.Jobs.{told_by}
use Rattle.session.specs.Lines.{AnswersLine}
use Rattle.session.specs.Loaded.{texts_of}
use Rattle.session.specs.Normals.{AreProved}
use Rattle.session.specs.Printing.{PrintedOrNot}

-- Where definitions are not all typed, what a check tells is told, and nothing is stored.
abbrev pub PromptJob : List ℕ → ℕ → List Text → List CodeDef → Job → Type 0
PromptJob name turns texts defs (Tell told) =
    (job : Job) × OtherJob name turns texts defs job × (told ≡ told_by job)
PromptJob name turns texts defs (Store path bytes told) = ⊥

-- the answers that lines have
abbrev pub answers_of : Prompt → (line text : List ℕ) → Type 0
answers_of p =
    let program = p.program.now in
    AnswersLine (texts_of program) (defs_in program.codes) p.turns

-- what is told where an input is too long
abbrev pub too_long : Outcome
too_long = refusal cause.TooLong None None

-- what is printed behind all lines, and the status
abbrev pub Closed : Ending → SeenSink → SeenSink → Status → Type 0
Closed ending.Closed old new result = (result ≡ status.Yes) × (new ≡ old)
Closed ending.TooLong old new result = PrintedOrNot (plain_text too_long) status.No old new result
Closed ending.ReadFault old new result =
    PrintedOrNot (plain_text outcome.ReadFault) status.Fault old new result
Closed ending.WriteFault old new result = (result ≡ status.Fault) × (new ≡ old)
Closed ending.Memory old new result = (result ≡ status.Memory) × (new ≡ old)

-- A prompt of a program begins, or it is told why there is none.
abbrev pub IsBegun : List ℕ → ℕ → Program → Begun → Type 0
IsBegun name turns program (begun.Typed p) =
    AreProved (judgements (texts_of program)) × (p.program.now ≡ program) × (p.turns ≡ turns)
IsBegun name turns program (begun.Told told) =
    PromptJob name turns (texts_of program) (defs_in program.codes) (Tell told)
