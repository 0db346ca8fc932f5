-- What becomes of a prompt.
use Rattle.std.proofs.Common.{◌≡◌, ◌⊎◌, ℕ, List, refl, sym, ◌∙◌, ap, subst, Some, inl, inr}
use Rattle.std.specs.declared.alloc.AllocError.{AllocError}
use Rattle.std.specs.Option.{option_map}
use Rattle.host_io.specs.Seen.{SeenFiles, SeenSink, SeenSource}
use Rattle.module_texts.specs.Texts.{Text}
use Rattle.codes.specs.declared.code.CodeDef.{CodeDef}
use Rattle.resolver.specs.Resolved.{defs_in}
use Rattle.dialogue.specs.declared.talking.Ending.{Ending}
use Rattle.dialogue.specs.Dialogues.{Talked}
use Rattle.command_words.specs.Words.{Command, Check, Replay, Normal, Prompt as PromptWords, Make}
use Rattle.outcomes.specs.declared.outcome.Outcome.{Outcome}
use Rattle.session.specs.declared.job.Job.{Job}
use Rattle.session.specs.declared.job.Job.TheVariants.{Tell, Store}
use Rattle.session.specs.declared.program.Program.{Program}
use Rattle.session.specs.declared.prompted.Prompt.{Prompt}
use Rattle.session.specs.Answers.{MayAnswer}
use Rattle.session.specs.Counted.{IsCounted, IsUncounted, StoresNothing}
use Rattle.session.specs.Jobs.{Jobs, MayDo, done, not_loaded, not_resolved, told_by}
use Rattle.session.specs.Lines.{AnswersLine}
use Rattle.session.specs.Loaded.{IsRead, texts_of}
use Rattle.session.specs.Modules.{NotLoaded, NotResolved}
use Rattle.session.specs.Prompts.{PromptJob, answers_of}
use Rattle.session.proofs.CheckLaws.{other_uncounted}

-- a module that is not read
pub not_read : (J : Jobs) (name : List ℕ) (old new : SeenFiles) (told : Outcome) → NotLoaded old.held name told ⊎ NotResolved old.held name told → StoresNothing old new → MayDo J name old new told
not_read J name old new told (inl is) kept = not_loaded is kept
not_read J name old new told (inr is) kept = not_resolved is kept

-- definitions that are not all typed
pub not_typed : (name : List ℕ) (turns : ℕ) (old new : SeenFiles) (program : Program) (told : Outcome) → IsRead old.held name (texts_of program) program.codes → new ≡ old → PromptJob name turns (texts_of program) (defs_in program.codes) (Tell told)
    → MayAnswer (Some (PromptWords name turns)) old new told
not_typed name turns old new program told read same job =
    let plain : IsUncounted told = subst IsUncounted (sym job.2) (other_uncounted name turns (texts_of program) (defs_in program.codes) job.0 job.1) in
    (done (texts_of program) program.codes read (Tell told) job (refl, same), ap (λ (s : SeenFiles). s.counts) same ∙ sym (plain old.counts))

-- lines were answered over the program
pub talked_over : (p : Prompt) (program : Program) (turns : ℕ) (input after : SeenSource) (out taken : SeenSink) (end : Ending) → p.program.now ≡ program → p.turns ≡ turns → Talked (answers_of p) input after out taken end
    → Talked (AnswersLine (texts_of program) (defs_in program.codes) turns) input after out taken end
talked_over p program turns input after out taken end programs budget talked =
    let there = subst (λ (q : Program). Talked (AnswersLine (texts_of q) (defs_in q.codes) p.turns) input after out taken end) programs talked in
    subst (λ n. Talked (AnswersLine (texts_of program) (defs_in program.codes) n) input after out taken end) budget there
