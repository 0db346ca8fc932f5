-- What a command leaves whose outcome is known.
use Rattle.std.proofs.Common.{◌≡◌, ◌≢◌, ℕ, List, refl, subst, None, Some, Option}
use Rattle.host_io.specs.Seen.{SeenFiles}
use Rattle.host_io.specs.declared.files.Stored.{Stored}
use Rattle.host_io.specs.declared.files.Stored.TheVariants as stored
use Rattle.command_words.specs.Words.{Command, Check, Replay, Normal, Prompt, Make}
use Rattle.outcomes.specs.declared.outcome.Outcome.{Outcome}
use Rattle.outcomes.specs.declared.outcome.Outcome.TheVariants as outcome
use Rattle.session.specs.declared.job.Job.{Job}
use Rattle.session.specs.declared.job.Job.TheVariants.{Tell, Store}
use Rattle.session.specs.Jobs.{Does, Jobs, Leaves, MayDo, MayLeave, told_stored, nothing, left, not_loaded, not_resolved, done}
use Rattle.session.specs.Checks.{CheckJob}
use Rattle.session.specs.Normals.{NormalJob}
use Rattle.session.specs.Answers.{MayAnswer, MayStore}

-- a store that is told by another line than that of a failed one did not fail
not_failed : (it : Outcome) (answer : Stored) (told : Outcome) → told_stored it answer ≡ Some told → told ≢ outcome.WriteFault → answer ≢ stored.Failed
not_failed it stored.Done told is other = λ e. cc
not_failed it stored.Memory told is other = λ e. cc
not_failed it stored.Failed told is other = λ e. other (cc is)

leaves_job : (job : Job) (old new : SeenFiles) (told : Outcome) → told ≢ outcome.WriteFault → Does job old new told → Leaves job old new
leaves_job (Tell it) old new told other does = does.1
leaves_job (Store path bytes it) old new told other does = (does.0, not_failed it does.0 told does.2 other, does.1)

-- where no failed store is told, a command leaves what it may leave out of memory
leaves : (J : Jobs) (name : List ℕ) (old new : SeenFiles) (told : Outcome) → told ≢ outcome.WriteFault → MayDo J name old new told → MayLeave J name old new
leaves J name old new told other (not_loaded loaded kept) = nothing kept
leaves J name old new told other (not_resolved resolved kept) = nothing kept
leaves J name old new told other (done texts codes read job is does) = left texts codes read job is (leaves_job job old new told other does)

pub stores : {F : Type 0} (see : F → SeenFiles) (command : Option Command) (One Other : Type 0) (old new : F) (told : Outcome) → MayAnswer command (see old) (see new) told → (Other → told ≢ outcome.WriteFault) → MayStore see command One old new → MayStore see command Other old new
stores see None One Other old new told may spared stored = stored
stores see (Some (Check name turns json)) One Other old new told may spared stored = λ spent. leaves (CheckJob name turns) name (see old) (see new) told (spared spent) may.0
stores see (Some (Prompt name turns)) One Other old new told may spared stored = stored
stores see (Some (Make count)) One Other old new told may spared stored = stored
stores see (Some (Normal name part turns)) One Other old new told may spared stored = λ spent. leaves (NormalJob name part turns) name (see old) (see new) told (spared spent) may.0
stores see (Some (Replay path of)) One Other old new told may spared stored = stored

-- what is out of memory at once stores nothing
pub stores_nothing : {F : Type 0} (see : F → SeenFiles) (command : Option Command) (One : Type 0) (old : F) → MayStore see command One old old
stores_nothing see None One old = refl
stores_nothing see (Some (Check name turns json)) One old = λ spent. nothing (refl, refl)
stores_nothing see (Some (Prompt name turns)) One old = (refl, refl)
stores_nothing see (Some (Make count)) One old = refl
stores_nothing see (Some (Normal name part turns)) One old = λ spent. nothing (refl, refl)
stores_nothing see (Some (Replay path of)) One old = (refl, refl)

-- the less often it is out of memory, the less is asked
pub stores_less : {F : Type 0} (see : F → SeenFiles) (command : Option Command) (One Other : Type 0) (old new : F) → (Other → One) → MayStore see command One old new → MayStore see command Other old new
stores_less see None One Other old new less stored = stored
stores_less see (Some (Check name turns json)) One Other old new less stored = λ spent. stored (less spent)
stores_less see (Some (Prompt name turns)) One Other old new less stored = stored
stores_less see (Some (Make count)) One Other old new less stored = stored
stores_less see (Some (Normal name part turns)) One Other old new less stored = λ spent. stored (less spent)
stores_less see (Some (Replay path of)) One Other old new less stored = stored

-- a command that was read is the one asked
pub stores_as : {F : Type 0} (see : F → SeenFiles) (command asked : Option Command) (One : Type 0) (old new : F) → asked ≡ command → MayStore see asked One old new → MayStore see command One old new
stores_as see command asked One old new is stored = subst (λ c. MayStore see c One old new) is stored
