-- What a command may answer, and what is then printed.
use Rattle.std.specs.Prelude.{◌≡◌, ◌≢◌, ◌⊎◌, ℕ, false, List, [], length, None, Some}
use Rattle.std.specs.Prelude.{string_bytes, Option}
use Rattle.std.specs.Prelude.{Bool, true, false}
use Rattle.host_io.specs.Files.{Held, HoldsAt}
use Rattle.host_io.specs.Seen.{SeenFiles, SeenSource, SeenSink}
use Rattle.trees.specs.Judgements.{Judgement}
use Rattle.derivation.specs.Right.{AllRight, Derives, FirstBad}
use Rattle.replay.specs.declared.judging.Verdict.{Verdict}
use Rattle.replay.specs.declared.judging.Verdict.TheVariants.{Yes, No}
use Rattle.replay.specs.Verdicts.{VerdictIs}
use Rattle.outcomes.specs.declared.outcome.Status.{Status}
use Rattle.outcomes.specs.declared.outcome.Status.TheVariants as status
use Rattle.outcomes.specs.declared.outcome.Outcome.{Outcome}
use Rattle.outcomes.specs.declared.outcome.Outcome.TheVariants as outcome
use Rattle.command_words.specs.Words.{Command, Check, Replay, Normal, Prompt, Make}
use Rattle.outcomes.specs.Outcomes.{plain_text, status_of}
use Rattle.session.specs.Counted.{IsCounted, StoresNothing}
use Rattle.outcomes.specs.Json.{text_in}
use Rattle.session.specs.Modules.{DifferAt, NotLoaded, NotResolved, Spells}
use Rattle.module_texts.specs.Texts.{Text}
use Rattle.resolver.specs.declared.resolving.Codes.{Codes}
use Rattle.resolver.specs.Resolved.{defs_in}
use Rattle.direct.specs.Direct.{other_place}
use Rattle.session.specs.Loaded.{IsRead}
use Rattle.session.specs.Jobs.{MayDo, MayLeave}
use Rattle.session.specs.Checks.{CheckJob}
use Rattle.session.specs.Normals.{AreProved, NormalJob}
use Rattle.session.specs.Makes.{Makes}
use Rattle.session.specs.Lines.{AnswersLine}
use Rattle.session.specs.Printing.{Printed}
use Rattle.session.specs.Prompts.{Closed, PromptJob}
use Rattle.dialogue.specs.declared.talking.Ending.{Ending}
use Rattle.dialogue.specs.Dialogues.{Talked}
use Rattle.linking.specs.Modules.{judgements}

-- What may be said of the bytes of a file, where its roots may be wanted to be these: yes exactly
-- where all rows are right and the roots are these.
abbrev pub IsFound : List ℕ → Option (List Judgement) → Outcome → Type 0
IsFound bytes None (outcome.Judged verdict) = VerdictIs bytes verdict
IsFound bytes (Some Js) (outcome.Judged (Yes rows roots)) =
    AllRight bytes × Derives bytes rows Js × (roots ≡ length Js)
IsFound bytes (Some Js) (outcome.Judged (No row)) = FirstBad bytes row
IsFound bytes (Some Js) (outcome.RootDiffers k) =
    AllRight bytes
    × ((rows : ℕ) × (Ks : List Judgement) × Derives bytes rows Ks × DifferAt Ks Js k)
IsFound bytes wanted result = ⊥

-- When a replay of a path may end so: what is said is said of the bytes that the path holds, where
-- it is told what is held; a path that is missing is not held.
abbrev pub IsReplayed : Option Held → List ℕ → Option (List Judgement) → Outcome → Type 0
IsReplayed held path wanted (outcome.MissingFile missing) =
    (string_bytes missing ≡ path) × HoldsAt held path None
IsReplayed held path wanted outcome.ReadFault = Unit {0}
IsReplayed held path wanted result =
    (bytes : List ℕ) × HoldsAt held path (Some bytes) × IsFound bytes wanted result

-- With a module: it is not loaded, or not resolved, or the path is replayed for what it spells.
pub data MayReplayOf (held : Option Held) (path name : List ℕ) (told : Outcome) : Type 0 where
  not_loaded : NotLoaded held name told → MayReplayOf held path name told
  not_resolved : NotResolved held name told → MayReplayOf held path name told
  replayed : (Js : List Judgement) → Spells held name Js → IsReplayed held path (Some Js) told
      → MayReplayOf held path name told

abbrev pub MayReplay : Option Held → List ℕ → Option (List ℕ) → Outcome → Type 0
MayReplay held path None result = IsReplayed held path None result
MayReplay held path (Some name) result = MayReplayOf held path name result

-- When a command may end so that answers once, as `prompt` does of definitions that are not typed;
-- words that are no command have one answer.
abbrev pub MayAnswer : Option Command → SeenFiles → SeenFiles → Outcome → Type 0
MayAnswer (Some (Check name turns json)) old new result =
    MayDo (CheckJob name turns) name old new result × IsCounted old new result
MayAnswer (Some (Normal name part turns)) old new result =
    MayDo (NormalJob name part turns) name old new result × IsCounted old new result
MayAnswer (Some (Replay path of)) old new result =
    MayReplay old.held path of result × IsCounted old new result
MayAnswer (Some (Prompt name turns)) old new result =
    MayDo (PromptJob name turns) name old new result × IsCounted old new result
MayAnswer (Some (Make count)) old new result = Makes count result
MayAnswer None old new result = result ≡ outcome.Usage

-- files, an input and an output
pub record World (F I O : Type 0) : Type 0 where
  pub files : F
  pub input : I
  pub out : O

abbrev pub world : {F I O : Type 0} → F → I → O → World F I O
world files input out = record { files = files; input = input; out = out }

-- what is seen of them
abbrev pub Seen : Type 0
Seen = World SeenFiles SeenSource SeenSink

-- whether a command is answered in JSON
abbrev pub wants_json : Option Command → Bool
wants_json (Some (Check name turns json)) = json
wants_json _ = false

-- whether a command answers lines
abbrev pub asks_lines : Option Command → Bool
asks_lines (Some (Prompt name turns)) = true
asks_lines _ = false

-- the command ended, and its text was printed
pub record Answered (command : Option Command) (old new : Seen) (result : Status) : Type 0 where
  pub outcome : Outcome
  pub may : MayAnswer command old.files new.files outcome
  pub printed : Printed (text_in (wants_json command) outcome) (status_of outcome)
      old.out new.out result

-- What a command may do to the files, where what it answers does not say it: one that stores and
-- was out of memory; words that are no command leave them alone.
abbrev pub MayStore : {F : Type 0} → (F → SeenFiles) → Option Command → Type 0 → F → F → Type 0
MayStore see (Some (Check name turns json)) OutOfMemory old new =
    OutOfMemory → MayLeave (CheckJob name turns) name (see old) (see new)
MayStore see (Some (Normal name part turns)) OutOfMemory old new =
    OutOfMemory → MayLeave (NormalJob name part turns) name (see old) (see new)
MayStore see (Some (Replay path of)) OutOfMemory old new = StoresNothing (see old) (see new)
MayStore see (Some (Prompt name turns)) OutOfMemory old new = StoresNothing (see old) (see new)
MayStore see (Some (Make count)) OutOfMemory old new = new ≡ old
MayStore see None OutOfMemory old new = new ≡ old

-- A command ran: how files, inputs and outputs are seen, the command, both worlds, and the status.
module _ {F I O : Type 0} (files : F → SeenFiles)
    (input : I → SeenSource) (out : O → SeenSink) where
  abbrev pub seen : World F I O → Seen
  seen all = world (files all.files) (input all.input) (out all.out)

  -- it answered once
  pub record RanOnce (command : Option Command) (old new : World F I O) (result : Status) : Type 0
    where
      pub answer : result ≢ status.Memory → Answered command (seen old) (seen new) result
      pub memory : result ≡ status.Memory → new.out ≡ old.out
      pub stored : MayStore files command (result ≡ status.Memory) old.files new.files
      pub read : new.input ≡ old.input

  -- All that the text of the module spells can be derived, and lines were answered behind it.
  pub record RanLines (name : List ℕ) (turns : ℕ) (old new : World F I O) (result : Status) :
      Type 0 where
    pub texts : List Text
    pub codes : Codes
    pub read : IsRead (files old.files).held name texts codes
    pub proved : AreProved (judgements texts)
    pub ending : Ending
    pub answered : SeenSink
    pub talked : Talked (AnswersLine texts (defs_in codes) turns) (input old.input)
        (input new.input) (out old.out) answered ending
    pub closed : Closed ending answered (out new.out) result
    pub kept : files new.files ≡ files old.files

  pub data Ran (command : Option Command) (old new : World F I O) (result : Status) : Type 0 where
    once : RanOnce command old new result → Ran command old new result
    by_lines : (name : List ℕ) (turns : ℕ) → command ≡ Some (Prompt name turns)
        → RanLines name turns old new result → Ran command old new result

-- A law: of one file there is one verdict, yes with these numbers or no at that row.
abbrev pub OneVerdict : Type 0
OneVerdict =
    (bytes : List ℕ) (one other : Verdict) →
    VerdictIs bytes one → VerdictIs bytes other → one ≡ other

-- A law: where it is told what is held, a replay of a path, and of a module if one is named, has
-- one text and one status, but for a fault of reading.
abbrev pub OneAnswer : Type 0
OneAnswer =
    (path : List ℕ) (of : Option (List ℕ)) (held : Held) (one other : Outcome)
    → one ≢ outcome.ReadFault → other ≢ outcome.ReadFault
    → MayReplay (Some held) path of one → MayReplay (Some held) path of other
    → (plain_text one ≡ plain_text other) × (status_of one ≡ status_of other)

-- an outcome that is no fault of reading or writing
abbrev pub IsOfText : Outcome → Type 0
IsOfText outcome.ReadFault = ⊥
IsOfText outcome.WriteFault = ⊥
IsOfText result = Unit {0}

-- if modules are read for one of that name, all their definitions are direct
abbrev pub AreDirect : Held → List ℕ → Type 0
AreDirect held name =
    (texts : List Text) (codes : Codes) → IsRead (Some held) name texts codes
    → other_place (defs_in codes) [] ≡ None

-- A law: where it is told what is held, a check of a module whose definitions are direct has one
-- text and one status, but for faults of reading and of writing, whatever the budget.
abbrev pub OneCheck : Type 0
OneCheck =
    (name : List ℕ) (turns others : ℕ) (held : Held) → AreDirect held name
    → (one other : Outcome) (old new before after : SeenFiles)
    → old.held ≡ Some held → before.held ≡ Some held → IsOfText one → IsOfText other
    → MayDo (CheckJob name turns) name old new one
    → MayDo (CheckJob name others) name before after other
    → (plain_text one ≡ plain_text other) × (status_of one ≡ status_of other)
