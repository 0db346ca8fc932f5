-- What checking a module comes to.
use Rattle.std.specs.Prelude.{◌≡◌, ◌⊎◌, ℕ, List, [], ◌++◌, length, codes, Some}
use Rattle.std.specs.Prelude.{string_bytes}
use Rattle.translation.specs.Translated.{judgements_of}
use Rattle.codes.specs.declared.code.CodeDef.{CodeDef}
use Rattle.module_texts.specs.Texts.{Text}
use Rattle.linking.specs.Modules.{judgements}
use Rattle.book_writer.specs.Written.{IsWritten}
use Rattle.direct.specs.Direct.{other_place}
use Rattle.evidence.specs.declared.lines.Evidence.{Evidence}
use Rattle.examining.specs.declared.examiner.Place.{Place}
use Rattle.outcomes.specs.declared.outcome.Outcome.{Outcome}
use Rattle.outcomes.specs.declared.outcome.Outcome.TheVariants as outcome
use Rattle.outcomes.specs.declared.refusal.Cause.{Cause}
use Rattle.outcomes.specs.declared.refusal.Cause.TheVariants as cause
use Rattle.outcomes.specs.declared.refusal.Refusal.{Refusal}
use Rattle.session.specs.declared.job.Job.{Job}
use Rattle.session.specs.declared.job.Job.TheVariants.{Tell, Store}
use Rattle.session.specs.declared.check_command.Checks.{Checks}
use Rattle.session.specs.declared.check_command.Checks.TheVariants.{Derived, NotTyped}
use Rattle.session.specs.Loaded.{stated_by}
use Rattle.session.specs.Others.{IsOther}
use Rattle.session.specs.Found.{AreNotDirect}
use Rattle.session.specs.Refutals.{IsEvidence}
use Rattle.session.specs.Places.{IsRefusalIn, IsRefusedAt, IsSpentIn, places}

-- the path of a module's derivation, and that of the evidence that it is refused
abbrev pub derivation_path : List ℕ → List ℕ
derivation_path name = name ++ codes ".drv"

abbrev pub evidence_path : List ℕ → List ℕ
evidence_path name = name ++ codes ".no.drv"

-- A file is stored that derives the judgements that the texts spell, and holds no row that serves
-- none of these.
pub record IsDerived (name : List ℕ) (texts : List Text) (path bytes : List ℕ) (told : Outcome) :
    Type 0 where
  pub path_is : path ≡ derivation_path name
  pub rows : ℕ
  pub written : IsWritten bytes rows (judgements texts)
  pub is_told : told ≡ outcome.Checked (length (places texts))

-- A file is stored that is evidence of the cause for which a definition is refused, and shown with
-- it. One is not direct.
pub record IsRefuted (name : List ℕ) (texts : List Text) (defs : List CodeDef)
    (path bytes : List ℕ) (told : Outcome) : Type 0 where
  pub other : AreNotDirect defs
  pub path_is : path ≡ evidence_path name
  pub at : Place
  pub why : Cause
  pub refusal : Refusal
  pub refused : IsRefusalIn texts at why refusal
  pub evidence : Evidence
  pub evidence_is : IsEvidence why evidence
  pub bytes_are : evidence.bytes.items ≡ bytes
  pub is_told : told ≡ outcome.Refuted refusal evidence.shown

-- What is told where nothing is stored: one is not direct.
pub data NotStored (texts : List Text) (defs : List CodeDef) (turns : ℕ) (told : Outcome) :
    Type 0 where
  -- a form stands where a type is to be inferred, and has none of its own
  not_inferred : AreNotDirect defs → (at : Place) → (refusal : Refusal)
      → IsRefusalIn texts at cause.CannotInfer refusal → told ≡ outcome.Refused refusal
      → NotStored texts defs turns told
  -- a budget was spent
  spent : AreNotDirect defs → (at : Place) → IsSpentIn texts at turns told
      → NotStored texts defs turns told
  -- a step was not taken, which is told of the first that is not direct
  not_taken : (k : ℕ) → other_place defs [] ≡ Some k → IsRefusedAt texts k told
      → NotStored texts defs turns told

-- what it comes to where definitions are not all typed, each question within so many moves
abbrev pub OtherJob : List ℕ → ℕ → List Text → List CodeDef → Job → Type 0
OtherJob name turns texts defs (Tell told) = NotStored texts defs turns told
OtherJob name turns texts defs (Store path bytes told) =
    IsRefuted name texts defs (string_bytes path) bytes.items told

-- what a check of the module of that name comes to
abbrev pub CheckJob : List ℕ → ℕ → List Text → List CodeDef → Job → Type 0
CheckJob name turns texts defs (Tell told) = NotStored texts defs turns told
CheckJob name turns texts defs (Store path bytes told) =
    IsDerived name texts (string_bytes path) bytes.items told
    ⊎ IsRefuted name texts defs (string_bytes path) bytes.items told

-- what comes of definitions: the derivation of what they state, or that they are not all typed
abbrev pub IsChecked : List CodeDef → Checks → Type 0
IsChecked defs (Derived bytes) =
    (rows : ℕ) × IsWritten bytes.items rows (judgements_of (stated_by defs))
IsChecked defs (NotTyped other) =
    (first : ℕ) × (other_place defs [] ≡ Some first) × IsOther (length defs) first other
