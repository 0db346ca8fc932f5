-- What normalising a definition comes to.
use Rattle.std.specs.Prelude.{◌≡◌, ◌⊎◌, ℕ, length, ◌+◌, ◌*◌, List, [], ◌∷◌, ◌++◌, codes}
use Rattle.std.specs.Prelude.{slice_get, Option, Some}
use Rattle.std.specs.Prelude.{None, String, string_bytes}
use Rattle.std.specs.List.{All}
use Rattle.std.specs.declared.alloc.Global.{Global}
use Rattle.trees.specs.Trees.{Tree}
use Rattle.trees.specs.Judgements.{Nil, Judgement}
use Rattle.trees.specs.Language.{Tm, TmEq}
use Rattle.translation.specs.Translated.{judgements_of}
use Rattle.codes.specs.declared.code.CodeDef.{CodeDef, out-CodeDef}
use Rattle.module_texts.specs.Texts.{Text, path_of}
use Rattle.linking.specs.Modules.{judgements}
use Rattle.derivation.specs.Derivations.{Provable}
use Rattle.direct.specs.Direct.{other_place}
use Rattle.book.specs.Contents.{Contents}
use Rattle.book.specs.Shown.{book_concludes}
use Rattle.book_writer.specs.Written.{IsWritten}
use Rattle.normal_parts.specs.Normal.{Normal}
use Rattle.fixed_names.specs.Fixed.{none_fixed}
use Rattle.tree_texts.specs.Show.{shown}
use Rattle.evidence.specs.declared.lines.Evidence.{Evidence}
use Rattle.evidence.specs.Told.{IsUnaligned}
use Rattle.examining.specs.declared.examiner.Place.{Place}
use Rattle.outcomes.specs.declared.outcome.Outcome.{Outcome}
use Rattle.outcomes.specs.declared.outcome.Outcome.TheVariants as outcome
use Rattle.outcomes.specs.declared.refusal.Cause.TheVariants as cause
use Rattle.outcomes.specs.declared.refusal.Refusal.{Refusal}
use Rattle.session.specs.declared.job.Job.{Job}
use Rattle.session.specs.declared.job.Job.TheVariants.{Tell, Store}
use Rattle.session.specs.declared.normal_command.Asked.{Asked}
use Rattle.session.specs.declared.normal_command.Shown.{Shown}
use Rattle.session.specs.declared.normal_command.Normalised.{Normalised}
use Rattle.session.specs.declared.normal_command.Normalised.TheVariants as normalised
use Rattle.outcomes.specs.Refusals.{refusal}
use Rattle.session.specs.Loaded.{stated_by}
use Rattle.session.specs.Places.{IsLastNamed, IsRefusalIn, IsRefusedAt, IsSpentAt, span_of}
use Rattle.session.specs.Others.{IsOther}
use Rattle.session.specs.Checks.{IsRefuted, NotStored, evidence_path}

-- the path of the derivation of a normal form
abbrev pub normal_path : List ℕ → List ℕ → List ℕ
normal_path name part = name ++ codes "." ++ part ++ codes ".drv"

-- A text shows a normal term, and a file derives that a closed term is equal to it, as its one
-- root.
pub record Shows (text bytes : List ℕ) (term type : Tree) : Type 0 where
  pub normal : Tree
  pub is_normal : Normal none_fixed normal
  pub shown : text ≡ shown 0 normal ++ 10 ∷ []
  pub rows : ℕ
  pub written : IsWritten bytes rows (TmEq Nil term normal type ∷ [])

-- all of these can be derived
abbrev pub AreProved : List Judgement → Type 0
AreProved = All Provable

-- The term and the type of the definition of that number, of definitions that state these, each its
-- type and its body in the order of their numbers; and what is shown of it.
pub record IsNormalised (Js : List Judgement) (number : ℕ) (text bytes : List ℕ) : Type 0 where
  pub term : Tree
  pub type : Tree
  pub typed : slice_get Js (2 * number + 1) ≡ Some (Tm Nil term type)
  pub shows : Shows text bytes term type

-- A normal form is stored and shown: that of the last definition that has the name.
pub record IsStoredNormal (name part : List ℕ) (texts : List Text) (defs : List CodeDef)
    (path bytes : List ℕ) (told : Outcome) : Type 0 where
  pub place : ℕ
  pub last : IsLastNamed texts part (Some place)
  pub code : CodeDef
  pub code_is : slice_get defs place ≡ Some code
  pub proved : AreProved (judgements texts)
  pub text : String Global
  pub normalised :
      IsNormalised (judgements texts) (out-CodeDef code).number (string_bytes text) bytes
  pub path_is : path ≡ normal_path name part
  pub is_told : told ≡ outcome.Shown text

-- A file is stored that is evidence that two types could not be aligned where the last definition
-- that has the name is normalised. It is told with the first byte of its body.
pub record IsUnalignedAt (name part : List ℕ) (texts : List Text) (defs : List CodeDef)
    (path bytes : List ℕ) (told : Outcome) : Type 0 where
  pub place : ℕ
  pub last : IsLastNamed texts part (Some place)
  pub proved : AreProved (judgements texts)
  pub code : CodeDef
  pub code_is : slice_get defs place ≡ Some code
  pub at : Place
  pub at_is : at ≡ record { definition = place; at = (span_of (out-CodeDef code).body).start }
  pub refusal : Refusal
  pub refused : IsRefusalIn texts at cause.Unaligned refusal
  pub path_is : path ≡ evidence_path name
  pub evidence : Evidence
  pub evidence_is : IsUnaligned evidence
  pub bytes_are : evidence.bytes.items ≡ bytes
  pub is_told : told ≡ outcome.Refuted refusal evidence.shown

-- what is told where there is none
pub data NotShown (name part : List ℕ) (turns : ℕ) (texts : List Text) (defs : List CodeDef)
    (told : Outcome) : Type 0 where
  not_stored : NotStored texts defs turns told → NotShown name part turns texts defs told
  nameless : AreProved (judgements texts) → IsLastNamed texts part None → (path : String Global)
      → string_bytes path ≡ path_of name → told ≡ refusal cause.NoSuchName None (Some path)
      → NotShown name part turns texts defs told
  spent : AreProved (judgements texts) → (k : ℕ) → IsLastNamed texts part (Some k)
      → IsSpentAt texts defs k turns told → NotShown name part turns texts defs told
  not_taken : AreProved (judgements texts) → (k : ℕ) → IsLastNamed texts part (Some k)
      → IsRefusedAt texts k told → NotShown name part turns texts defs told

-- what it comes to, of the module of that name, to normalise a part within so many moves
abbrev pub NormalJob : List ℕ → List ℕ → ℕ → List Text → List CodeDef → Job → Type 0
NormalJob name part turns texts defs (Tell told) = NotShown name part turns texts defs told
NormalJob name part turns texts defs (Store path bytes told) =
    IsStoredNormal name part texts defs (string_bytes path) bytes.items told
    ⊎ IsRefuted name texts defs (string_bytes path) bytes.items told
    ⊎ IsUnalignedAt name part texts defs (string_bytes path) bytes.items told

abbrev pub asked_job : Asked → List Text → List CodeDef → Job → Type 0
asked_job asked = NormalJob asked.module_name.now asked.name.now asked.turns

-- steps of that

-- The text shows the normal form of the closed term that one node types, and another one concludes
-- that the term is equal to it.
pub record IsNormalText (b : Contents) (equation body : ℕ) (text : List ℕ) : Type 0 where
  pub term : Tree
  pub type : Tree
  pub normal : Tree
  pub typed : book_concludes b body ≡ Some (Tm Nil term type)
  pub equal : book_concludes b equation ≡ Some (TmEq Nil term normal type)
  pub is_normal : Normal none_fixed normal
  pub shown : text ≡ shown 0 normal ++ 10 ∷ []

-- what is shown of the closed term that a node types
pub record IsShown (b : Contents) (body : ℕ) (s : Shown) : Type 0 where
  pub term : Tree
  pub type : Tree
  pub typed : book_concludes b body ≡ Some (Tm Nil term type)
  pub shows : Shows (string_bytes s.text) s.bytes.items term type

-- what comes of the definition at that place
abbrev pub ComesOf : List CodeDef → ℕ → Normalised → Type 0
ComesOf defs place (normalised.Shown s) =
    (code : CodeDef) × (slice_get defs place ≡ Some code)
    × IsNormalised (judgements_of (stated_by defs)) (out-CodeDef code).number
    (string_bytes s.text) s.bytes.items
ComesOf defs place (normalised.Spent k) = k ≡ place
ComesOf defs place (normalised.Unaligned k e) = (k ≡ place) × IsUnaligned e
ComesOf defs place (normalised.NotTaken k) = k ≡ place
ComesOf defs place _ = ⊥

-- and of all, where one is named
abbrev pub Comes : List CodeDef → Option ℕ → Normalised → Type 0
Comes defs named (normalised.NotTyped other) =
    (first : ℕ) × (other_place defs [] ≡ Some first) × IsOther (length defs) first other
Comes defs named normalised.Nameless =
    AreProved (judgements_of (stated_by defs)) × (named ≡ None)
Comes defs named came =
    AreProved (judgements_of (stated_by defs))
    × ((place : ℕ) × (named ≡ Some place) × ComesOf defs place came)
