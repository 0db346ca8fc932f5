-- What is done once a module is read, and what that leaves.
use Rattle.std.specs.Prelude.{◌≡◌, ◌≢◌, ℕ, List, Option, Some, None, Result, Ok, Err}
use Rattle.std.specs.Prelude.{string_bytes}
use Rattle.std.specs.declared.alloc.AllocError.{AllocError}
use Rattle.host_io.specs.Counts.{counted_store}
use Rattle.host_io.specs.Files.{StoreDoes}
use Rattle.host_io.specs.Seen.{SeenFiles}
use Rattle.host_io.specs.declared.files.Stored.{Stored}
use Rattle.host_io.specs.declared.files.Stored.TheVariants as stored
use Rattle.module_texts.specs.Texts.{Text}
use Rattle.resolver.specs.declared.resolving.Codes.{Codes}
use Rattle.codes.specs.declared.code.CodeDef.{CodeDef}
use Rattle.resolver.specs.Resolved.{defs_in}
use Rattle.outcomes.specs.declared.outcome.Outcome.{Outcome}
use Rattle.outcomes.specs.declared.outcome.Outcome.TheVariants as outcome
use Rattle.session.specs.declared.job.Job.{Job}
use Rattle.session.specs.declared.job.Job.TheVariants.{Tell, Store}
use Rattle.session.specs.Loaded.{IsRead}
use Rattle.session.specs.Modules.{NotLoaded, NotResolved}
use Rattle.session.specs.Counted.{StoresNothing}

-- what a store of bytes at a path did to the files
pub record IsStored (path bytes : List ℕ) (old new : SeenFiles) (answer : Stored) : Type 0 where
  pub held : StoreDoes old.held new.held path bytes answer
  pub counted : new.counts ≡ counted_store answer old.counts

-- how that is told, where this is told of one that was done; None stands for out of memory
abbrev pub told_stored : Outcome → Stored → Option Outcome
told_stored told stored.Done = Some told
told_stored told stored.Failed = Some outcome.WriteFault
told_stored told stored.Memory = None

-- a job was done: what is told, and what was stored
abbrev pub Does : Job → SeenFiles → SeenFiles → Outcome → Type 0
Does (Tell it) old new told = (told ≡ it) × (new ≡ old)
Does (Store path bytes it) old new told =
    (answer : Stored) × IsStored (string_bytes path) bytes.items old new answer
    × (told_stored it answer ≡ Some told)

-- What it leaves where it was out of memory: what was there, or what a store of all bytes leaves
-- that did not fail.
abbrev pub Leaves : Job → SeenFiles → SeenFiles → Type 0
Leaves (Tell it) old new = new ≡ old
Leaves (Store path bytes it) old new =
    (answer : Stored) × (answer ≢ stored.Failed)
    × IsStored (string_bytes path) bytes.items old new answer

abbrev pub CarriesOut : Job → SeenFiles → SeenFiles → Result Outcome AllocError → Type 0
CarriesOut job old new (Ok told) = Does job old new told
CarriesOut job old new (Err e) = Leaves job old new

-- what is told where all goes well
abbrev pub told_by : Job → Outcome
told_by (Tell it) = it
told_by (Store path bytes it) = it

-- jobs that modules allow, of which these are the texts and the codes
abbrev pub Jobs : Type 1
Jobs = List Text → List CodeDef → Job → Type 0

-- How a command may end that does such a job of the module of that name, and what it leaves then.
pub data MayDo (J : Jobs) (name : List ℕ) (old new : SeenFiles) (told : Outcome) : Type 0 where
  not_loaded : NotLoaded old.held name told → StoresNothing old new → MayDo J name old new told
  not_resolved : NotResolved old.held name told → StoresNothing old new
      → MayDo J name old new told
  done : (texts : List Text) (codes : Codes) → IsRead old.held name texts codes
      → (job : Job) → J texts (defs_in codes) job → Does job old new told
      → MayDo J name old new told

-- what it may leave where it is out of memory
pub data MayLeave (J : Jobs) (name : List ℕ) (old new : SeenFiles) : Type 0 where
  nothing : StoresNothing old new → MayLeave J name old new
  left : (texts : List Text) (codes : Codes) → IsRead old.held name texts codes
      → (job : Job) → J texts (defs_in codes) job → Leaves job old new → MayLeave J name old new
