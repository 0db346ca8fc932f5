-- What the steps of a dialogue do.
use Rattle.std.specs.Prelude.{◌≡◌, ◌≢◌, ◌+◌, ◌⊎◌, ℕ, List, [], ◌∷◌, ◌++◌, length}
use Rattle.std.specs.Io.KnownBytes.{Consumes}
use Rattle.std.specs.declared.ops.ControlFlow.{ControlFlow}
use Rattle.std.specs.declared.ops.ControlFlow.TheVariants.{Continue, Break}
use Rattle.host_io.specs.Seen.{SeenSource, SeenSink}
use Rattle.dialogue.specs.declared.talking.Ending.{Ending}
use Rattle.dialogue.specs.declared.talking.Ending.TheVariants as ending
use Rattle.dialogue.specs.Dialogues.{Answered, IsOneLine, Replies, limit, quit, without_return}
use Rattle.dialogue.specs.Writes.{CutOff, CutOffAfter, WrittenWhole}

module _ (Answers : List ℕ → List ℕ → Type 0) where
  -- What the answering of a line does: the line is no `:q`, and its answer was written, or this is
  -- how the dialogue ends.
  abbrev pub LineAnswered : List ℕ → SeenSink → SeenSink → ControlFlow Ending Unit → Type 0
  LineAnswered line out taken (Continue on) =
      (line ≢ quit) × (text : List ℕ) × Replies Answers line text × WrittenWhole text out taken
  LineAnswered line out taken (Break ending.Closed) =
      (line ≡ quit) × WrittenWhole [] out taken
  LineAnswered line out taken (Break ending.WriteFault) =
      (text : List ℕ) × Replies Answers line text × CutOff text out taken
  LineAnswered line out taken (Break ending.Memory) = WrittenWhole [] out taken
  LineAnswered line out taken (Break ending.TooLong) = ⊥
  LineAnswered line out taken (Break ending.ReadFault) = ⊥

  -- what it does at the last line, where the dialogue ends in any case
  abbrev pub LastAnswered : List ℕ → SeenSink → SeenSink → Ending → Type 0
  LastAnswered line out taken ending.Closed =
      LineAnswered line out taken (Continue tt) ⊎ LineAnswered line out taken (Break ending.Closed)
  LastAnswered line out taken ending.WriteFault =
      LineAnswered line out taken (Break ending.WriteFault)
  LastAnswered line out taken ending.Memory = LineAnswered line out taken (Break ending.Memory)
  LastAnswered line out taken ending.TooLong = ⊥
  LastAnswered line out taken ending.ReadFault = ⊥

  -- the bytes are lines that were answered, and then a line that has not ended
  pub record Fed (out taken : SeenSink) (bytes pending : List ℕ) : Type 0 where
    pub read : List ℕ
    pub written : List ℕ
    pub answered : Answered Answers read written
    pub parts : bytes ≡ read ++ pending
    pub one_line : IsOneLine pending
    pub whole : WrittenWhole written out taken

  -- how the dialogue ended within the bytes behind lines of which the answers were written
  abbrev pub Halts : SeenSink → SeenSink → (written rest : List ℕ) → Ending → Type 0
  Halts out taken written rest ending.Closed =
      (line : List ℕ) × (more : List ℕ) × (rest ≡ line ++ 10 ∷ more) × IsOneLine line
      × (without_return line ≡ quit) × WrittenWhole written out taken
  Halts out taken written rest ending.WriteFault =
      (line : List ℕ) × (more : List ℕ) × (text : List ℕ) × (rest ≡ line ++ 10 ∷ more)
      × IsOneLine line × Replies Answers (without_return line) text
      × CutOffAfter written text out taken
  Halts out taken written rest ending.Memory = WrittenWhole written out taken
  Halts out taken written rest ending.TooLong = ⊥
  Halts out taken written rest ending.ReadFault = ⊥

  -- the bytes are lines that were answered, and then some within which the dialogue ended
  pub record Halted (out taken : SeenSink) (bytes : List ℕ) (end : Ending) : Type 0 where
    pub read : List ℕ
    pub written : List ℕ
    pub answered : Answered Answers read written
    pub rest : List ℕ
    pub parts : bytes ≡ read ++ rest
    pub halts : Halts out taken written rest end

  -- where the dialogue stands after these bytes
  abbrev pub Stepped : SeenSink → SeenSink → (bytes pending : List ℕ) → ControlFlow Ending Unit
      → Type 0
  Stepped out taken bytes pending (Continue on) = Fed out taken bytes pending
  Stepped out taken bytes pending (Break end) = Halted out taken bytes end

  -- where a dialogue stands between two reads, with room for so many bytes
  pub record Stands (input now : SeenSource) (out taken : SeenSink) (pending : List ℕ) (room : ℕ)
      : Type 0 where
    pub given : List ℕ
    pub consumed : Consumes input.left now.left given
    pub no_fault : now.faults ≡ input.faults
    pub fed : Fed out taken given pending
    pub counted : length given + room ≡ limit
