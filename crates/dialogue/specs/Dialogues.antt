-- A dialogue by lines: what was read, and what was written.
use Rattle.std.specs.Prelude.{◌≡◌, ◌≢◌, ◌==◌, ◌≤◌, ◌<◌, ◌+◌, ◌-◌, ◌^◌, ℕ, List, [], ◌∷◌, ◌++◌}
use Rattle.std.specs.Prelude.{codes, length, take, if◌then◌else◌}
use Rattle.std.specs.List.{All}
use Rattle.std.specs.Io.KnownBytes.{Consumes, IsAtEnd}
use Rattle.host_io.specs.Counts.{one_more}
use Rattle.host_io.specs.Seen.{SeenSource, SeenSink}
use Rattle.dialogue.specs.declared.talking.Ending.{Ending}
use Rattle.dialogue.specs.declared.talking.Ending.TheVariants as ending
use Rattle.dialogue.specs.Writes.{WrittenWhole, CutOffAfter}

-- no newline is among the bytes
abbrev pub IsOneLine : List ℕ → Type 0
IsOneLine = All (λ b. b ≢ 10)

-- a line without the carriage return at its end, if it has one
abbrev pub without_return : List ℕ → List ℕ
without_return [] = []
without_return (b ∷ []) = if b == 13 then [] else b ∷ []
without_return (b ∷ c ∷ bs) = b ∷ without_return (c ∷ bs)

-- the line that ends a dialogue
abbrev pub quit : List ℕ
quit = codes ":q"

-- the most bytes that a dialogue has, and the most that one read gives
abbrev pub limit : ℕ
limit = 2 ^ 24

abbrev pub piece : ℕ
piece = 2 ^ 12

-- what the new answers say of a line and a text, the old ones say too
abbrev pub AreAmong : (old new : List ℕ → List ℕ → Type 0) → Type 0
AreAmong old new = (line text : List ℕ) → new line text → old line text

-- The rest is said over the answers that lines have: `Answers line text`.
module _ (Answers : List ℕ → List ℕ → Type 0) where
  -- an empty line has none
  abbrev pub Replies : List ℕ → List ℕ → Type 0
  Replies [] text = text ≡ []
  Replies (b ∷ bs) text = Answers (b ∷ bs) text

  -- Lines were read, each with its newline, and answered; none of them ends the dialogue.
  pub data Answered : (read written : List ℕ) → Type 0 where
    nothing : Answered [] []
    one_line_more : (read written line text : List ℕ) → Answered read written → IsOneLine line
        → without_return line ≢ quit → Replies (without_return line) text
        → Answered (read ++ line ++ 10 ∷ []) (written ++ text)

  -- Behind these lines stands the one that ends the dialogue, or the input is at its end: what
  -- stands there is a line too, though it has no newline.
  pub data Closes (after : SeenSource) (read rest text : List ℕ) : Type 0 where
    at_quit : (line more : List ℕ) → rest ≡ line ++ 10 ∷ more → IsOneLine line
        → without_return line ≡ quit → length read + length line < limit → text ≡ []
        → Closes after read rest text
    at_last_quit : IsAtEnd after.left → rest ≡ quit → length (read ++ rest) ≤ limit → text ≡ []
        → Closes after read rest text
    at_end : IsAtEnd after.left → IsOneLine rest → rest ≢ quit → length (read ++ rest) ≤ limit
        → Replies rest text → Closes after read rest text

  -- the text answers the line that stands there, or what does at the end of the input
  pub data AnswersNext (rest text : List ℕ) : Type 0 where
    a_line : (line more : List ℕ) → rest ≡ line ++ 10 ∷ more → IsOneLine line
        → Replies (without_return line) text → AnswersNext rest text
    the_last : IsOneLine rest → Replies rest text → AnswersNext rest text

  -- How the dialogue ended behind these lines, of which the answers were written, where so much
  -- else was read.
  abbrev pub Ends : SeenSource → SeenSource → SeenSink → SeenSink → (read written rest : List ℕ)
      → Ending → Type 0
  Ends input after out taken read written rest ending.Closed =
      (after.faults ≡ input.faults)
      × ((text : List ℕ) × Closes after read rest text × WrittenWhole (written ++ text) out taken)
  Ends input after out taken read written rest ending.TooLong =
      (after.faults ≡ input.faults) × (limit < length (read ++ rest))
      × IsOneLine (take (limit - length read) rest) × WrittenWhole written out taken
  Ends input after out taken read written rest ending.ReadFault =
      (after.faults ≡ one_more input.faults) × IsOneLine rest × WrittenWhole written out taken
  Ends input after out taken read written rest ending.WriteFault =
      (after.faults ≡ input.faults)
      × ((text : List ℕ) × AnswersNext rest text × CutOffAfter written text out taken)
  Ends input after out taken read written rest ending.Memory =
      (after.faults ≡ input.faults) × WrittenWhole written out taken

  -- a dialogue was held, and ended so
  pub record Talked (input after : SeenSource) (out taken : SeenSink) (end : Ending) : Type 0
    where
      pub read : List ℕ
      pub written : List ℕ
      pub answered : Answered read written
      pub rest : List ℕ
      pub consumed : Consumes input.left after.left (read ++ rest)
      pub few : length (read ++ rest) ≤ limit + piece
      pub ends : Ends input after out taken read written rest end
