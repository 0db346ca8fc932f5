-- What is done once a module is read.
use Rattle.std.proofs.Common.{◌≡◌, IsErr, ℕ, List, sym, ◌∙◌, ap, subst, Option, Some, Result, Ok, Err, IfOk}
use Rattle.std.specs.declared.alloc.AllocError.{AllocError}
use Rattle.host_io.specs.Counts.{FileCounts, counted_store}
use Rattle.host_io.specs.Files.{Held}
use Rattle.host_io.specs.Seen.{SeenFiles}
use Rattle.host_io.specs.declared.files.Stored.{Stored}
use Rattle.host_io.specs.declared.files.Stored.TheVariants as stored
use Rattle.module_texts.specs.Texts.{Text}
use Rattle.resolver.specs.declared.resolving.Codes.{Codes}
use Rattle.resolver.specs.Resolved.{defs_in}
use Rattle.outcomes.specs.declared.outcome.Outcome.{Outcome}
use Rattle.outcomes.specs.declared.outcome.Outcome.TheVariants as outcome
use Rattle.session.specs.declared.job.Job.{Job}
use Rattle.session.specs.declared.job.Job.TheVariants.{Tell, Store}
use Rattle.session.specs.Loaded.{IsRead}
use Rattle.session.specs.Counted.{IsCounted, IsUncounted}
use Rattle.session.specs.Jobs.{CarriesOut, Does, Jobs, Leaves, MayDo, MayLeave, done, left, told_by, told_stored}
use Rattle.session.proofs.LoadedLaws.{told_is}

-- files that hold the same, and of which the same is counted
pub same_files : (one other : SeenFiles) → one.held ≡ other.held → one.counts ≡ other.counts → one ≡ other
same_files one other held counts =
    let files : Option Held → FileCounts → SeenFiles = λ h n. record { held = h; counts = n } in
    ap (λ h. files h one.counts) held ∙ ap (files other.held) counts

stored_counted : (old new : SeenFiles) (answer : Stored) (it told : Outcome) → IsUncounted it → new.counts ≡ counted_store answer old.counts → told_stored it answer ≡ Some told → IsCounted old new told
stored_counted old new stored.Done it told plain c e = told_is old new it told e (c ∙ sym (plain old.counts))
stored_counted old new stored.Failed it told plain c e = told_is old new outcome.WriteFault told e c
stored_counted old new stored.Memory it told plain c e = absurd (cc e)

-- what is told of a job that was done is counted
pub does_counted : (job : Job) (old new : SeenFiles) (told : Outcome) → IsUncounted (told_by job) → Does job old new told → IsCounted old new told
does_counted (Tell it) old new told plain does =
    subst (IsCounted old new) (sym does.0) (ap (λ (s : SeenFiles). s.counts) does.1 ∙ sym (plain old.counts))
does_counted (Store path bytes it) old new told plain does = stored_counted old new does.0 it told plain does.1.counted does.2

module _ (J : Jobs) (name : List ℕ) (old mid new : SeenFiles) (texts : List Text) (codes : Codes) (same : mid ≡ old) (read : IsRead old.held name texts codes) (job : Job) (is : J texts (defs_in codes) job) where
  -- it was done
  pub answered : IsUncounted (told_by job) → (r : Result Outcome AllocError) → CarriesOut job mid new r → IfOk r (λ told. MayDo J name old new told × IsCounted old new told)
  answered plain (Ok told) does =
      let here = subst (λ files. Does job files new told) same does in
      (done texts codes read job is here, does_counted job old new told plain here)
  answered plain (Err e) does = tt

  -- or was out of memory
  pub left_by : (r : Result Outcome AllocError) → CarriesOut job mid new r → IsErr r → MayLeave J name old new
  left_by (Ok told) does err = cc
  left_by (Err e) does err = left texts codes read job is (subst (λ files. Leaves job files new) same does)
