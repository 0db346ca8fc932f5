-- Laws of the steps of a dialogue.
use Rattle.std.proofs.Common.{◌≡◌, ◌≢◌, ℕ, ◌<◌, ◌≤◌, ◌+◌, List, [], ◌∷◌, ◌++◌, length, take, drop, ap, sym, refl, subst, ◌∙◌, append_assoc, append-nil, inl, inr, get_or, take-append-drop, take_all}
use Rattle.std.proofs.KnownBytes.{Appends-nil, Appends-trans}
use Rattle.std.proofs.lemmas.List.{take_more}
use Rattle.std.proofs.lemmas.List.Elements.{All-nil, All-push, All-same}
use Rattle.std.specs.Io.KnownBytes.{Appends}
use Rattle.std.specs.declared.ops.ControlFlow.{ControlFlow}
use Rattle.std.specs.declared.ops.ControlFlow.TheVariants.{Continue, Break}
use Rattle.host_io.specs.Counts.{one_more}
use Rattle.host_io.specs.Seen.{SeenSink}
use Rattle.dialogue.specs.declared.talking.Ending.{Ending}
use Rattle.dialogue.specs.declared.talking.Ending.TheVariants as ending
use Rattle.dialogue.specs.Dialogues.{Answered, AreAmong, IsOneLine, Replies, nothing, one_line_more, piece, without_return}
use Rattle.dialogue.specs.Steps.{Fed, Halted, Halts, LastAnswered, LineAnswered, Stepped}
use Rattle.dialogue.specs.Writes.{CutOff, CutOffAfter, WrittenWhole}

-- ---- what is written

pub whole_none : (o : SeenSink) → WrittenWhole [] o o
whole_none o = (Appends-nil o.taken, refl)

pub whole_both : (o m t : SeenSink) (xs ys : List ℕ) → WrittenWhole xs o m → WrittenWhole ys m t → WrittenWhole (xs ++ ys) o t
whole_both o m t xs ys first second = (Appends-trans o.taken m.taken t.taken xs ys first.0 second.0, second.1 ∙ first.1)

pub whole_kept : (o m t : SeenSink) (xs : List ℕ) → WrittenWhole xs o m → WrittenWhole [] m t → WrittenWhole xs o t
whole_kept o m t xs first second =
    let both = whole_both o m t xs [] first second in
    (subst (Appends o.taken t.taken) (append-nil xs) both.0, both.1)

pub cut_behind : (o m t : SeenSink) (xs before text : List ℕ) → WrittenWhole xs o m → CutOffAfter before text m t → CutOffAfter (xs ++ before) text o t
cut_behind o m t xs before text first cut = (
  cut.0 ∙ ap one_more first.1,
  cut.1,
  cut.2,
  subst (Appends o.taken t.taken) (sym (append_assoc xs before (take cut.1 text))) (Appends-trans o.taken m.taken t.taken xs (before ++ take cut.1 text) first.0 cut.3),
)

pub cut_after : (o m t : SeenSink) (xs text : List ℕ) → WrittenWhole xs o m → CutOff text m t → CutOffAfter xs text o t
cut_after o m t xs text first cut =
    (cut.0 ∙ ap one_more first.1, cut.1, cut.2, Appends-trans o.taken m.taken t.taken xs (take cut.1 text) first.0 cut.3)

-- ---- answers among answers

pub replies_among : (A B : List ℕ → List ℕ → Type 0) → AreAmong A B → (line text : List ℕ) → Replies B line text → Replies A line text
replies_among A B among [] text reply = reply
replies_among A B among (b ∷ bs) text reply = among (b ∷ bs) text reply

pub answered_among : (A B : List ℕ → List ℕ → Type 0) → AreAmong A B → (r w : List ℕ) → Answered B r w → Answered A r w
answered_among A B among r w nothing = nothing
answered_among A B among r w (one_line_more read written line text before one without reply) =
    one_line_more read written line text (answered_among A B among read written before) one without (replies_among A B among (without_return line) text reply)

pub fed_among : (A B : List ℕ → List ℕ → Type 0) → AreAmong A B → (o t : SeenSink) (bytes pending : List ℕ) → Fed B o t bytes pending → Fed A o t bytes pending
fed_among A B among o t bytes pending fed = record {
  read = fed.read;
  written = fed.written;
  answered = answered_among A B among fed.read fed.written fed.answered;
  parts = fed.parts;
  one_line = fed.one_line;
  whole = fed.whole;
}

halts_among : (A B : List ℕ → List ℕ → Type 0) → AreAmong A B → (o t : SeenSink) (w rest : List ℕ) (end : Ending) → Halts B o t w rest end → Halts A o t w rest end
halts_among A B among o t w rest ending.Closed h = h
halts_among A B among o t w rest ending.WriteFault h =
    (h.0, h.1, h.2, h.3, h.4, replies_among A B among (without_return h.0) h.2 h.5, h.6)
halts_among A B among o t w rest ending.Memory h = h
halts_among A B among o t w rest ending.TooLong h = h
halts_among A B among o t w rest ending.ReadFault h = h

pub halted_among : (A B : List ℕ → List ℕ → Type 0) → AreAmong A B → (o t : SeenSink) (bytes : List ℕ) (end : Ending) → Halted B o t bytes end → Halted A o t bytes end
halted_among A B among o t bytes end halted = record {
  read = halted.read;
  written = halted.written;
  answered = answered_among A B among halted.read halted.written halted.answered;
  rest = halted.rest;
  parts = halted.parts;
  halts = halts_among A B among o t halted.written halted.rest end halted.halts;
}

pub last_among : (A B : List ℕ → List ℕ → Type 0) → AreAmong A B → (line : List ℕ) (o t : SeenSink) (end : Ending) → LastAnswered B line o t end → LastAnswered A line o t end
last_among A B among line o t ending.Closed (inl l) = inl (l.0, l.1, replies_among A B among line l.1 l.2, l.3)
last_among A B among line o t ending.Closed (inr l) = inr l
last_among A B among line o t ending.WriteFault l = (l.0, replies_among A B among line l.0 l.1, l.2)
last_among A B among line o t ending.Memory l = l
last_among A B among line o t ending.TooLong l = l
last_among A B among line o t ending.ReadFault l = l

-- ---- one step

-- the line that ended was answered, or the dialogue ended there
pub newline_stepped : (A : List ℕ → List ℕ → Type 0) (o t : SeenSink) (line stripped after : List ℕ) (flow : ControlFlow Ending Unit) → IsOneLine line → stripped ≡ without_return line → after ≡ [] → LineAnswered A stripped o t flow → Stepped A o t (line ++ 10 ∷ []) after flow
newline_stepped A o t line stripped after (Continue on) one same none l =
    let h : LineAnswered A (without_return line) o t (Continue on) = subst (λ (x : List ℕ). LineAnswered A x o t (Continue on)) same l in
    record {
      read = line ++ 10 ∷ [];
      written = h.1;
      answered = one_line_more [] [] line h.1 nothing one h.0 h.2;
      parts = sym (ap (λ x. (line ++ 10 ∷ []) ++ x) none ∙ append-nil (line ++ 10 ∷ []));
      one_line = All-same (λ b. b ≢ 10) after [] none (All-nil (λ b. b ≢ 10));
      whole = h.3;
    }
newline_stepped A o t line stripped after (Break ending.Closed) one same none l = record {
  read = [];
  written = [];
  answered = nothing;
  rest = line ++ 10 ∷ [];
  parts = refl;
  halts = (line, [], refl, one, sym same ∙ l.0, l.1);
}
newline_stepped A o t line stripped after (Break ending.WriteFault) one same none l = record {
  read = [];
  written = [];
  answered = nothing;
  rest = line ++ 10 ∷ [];
  parts = refl;
  halts = (line, [], l.0, refl, one, subst (λ (x : List ℕ). Replies A x l.0) same l.1, l.2);
}
newline_stepped A o t line stripped after (Break ending.Memory) one same none l = record {
  read = [];
  written = [];
  answered = nothing;
  rest = line ++ 10 ∷ [];
  parts = refl;
  halts = l;
}
newline_stepped A o t line stripped after (Break ending.TooLong) one same none l = absurd l
newline_stepped A o t line stripped after (Break ending.ReadFault) one same none l = absurd l

pub newline_taken : (A : List ℕ → List ℕ → Type 0) (o t : SeenSink) (line stripped after : List ℕ) (b : ℕ) (flow : ControlFlow Ending Unit) → b ≡ 10 → IsOneLine line → stripped ≡ without_return line → after ≡ [] → LineAnswered A stripped o t flow → Stepped A o t (line ++ b ∷ []) after flow
newline_taken A o t line stripped after b flow newline one same none l =
    subst (λ (x : ℕ). Stepped A o t (line ++ x ∷ []) after flow) (sym newline) (newline_stepped A o t line stripped after flow one same none l)

-- the line goes on
pub byte_fed : (A : List ℕ → List ℕ → Type 0) (o : SeenSink) (line after : List ℕ) (b : ℕ) → IsOneLine line → b ≢ 10 → after ≡ line ++ b ∷ [] → Fed A o o (line ++ b ∷ []) after
byte_fed A o line after b one other pushed = record {
  read = [];
  written = [];
  answered = nothing;
  parts = sym pushed;
  one_line = All-same (λ c. c ≢ 10) after (line ++ b ∷ []) pushed (All-push (λ c. c ≢ 10) line b one other);
  whole = whole_none o;
}

pub memory_halted : (A : List ℕ → List ℕ → Type 0) (o : SeenSink) (bytes : List ℕ) → Halted A o o bytes ending.Memory
memory_halted A o bytes = record {
  read = [];
  written = [];
  answered = nothing;
  rest = bytes;
  parts = refl;
  halts = whole_none o;
}

-- ---- steps, one after the other

module _ (A : List ℕ → List ℕ → Type 0) where
  pub answered_both : (r w s v : List ℕ) → Answered A r w → Answered A s v → Answered A (r ++ s) (w ++ v)
  answered_both r w s v first nothing =
      subst (λ (x : List ℕ). Answered A x (w ++ [])) (sym (append-nil r)) (subst (λ (x : List ℕ). Answered A r x) (sym (append-nil w)) first)
  answered_both r w s v first (one_line_more read written line text before one without reply) =
      let more : Answered A (((r ++ read) ++ line) ++ 10 ∷ []) ((w ++ written) ++ text) =
      one_line_more (r ++ read) (w ++ written) line text (answered_both r w read written first before) one without reply in
      let apart : ((r ++ read) ++ line) ++ 10 ∷ [] ≡ r ++ ((read ++ line) ++ 10 ∷ []) =
      ap (λ l. l ++ 10 ∷ []) (append_assoc r read line) ∙ append_assoc r (read ++ line) (10 ∷ []) in
      subst (λ (x : List ℕ). Answered A x (w ++ (written ++ text))) apart
      (subst (λ (x : List ℕ). Answered A (((r ++ read) ++ line) ++ 10 ∷ []) x) (append_assoc w written text) more)

  pub fed_none : (o : SeenSink) (after : List ℕ) → after ≡ [] → Fed A o o [] after
  fed_none o after none = record {
    read = [];
    written = [];
    answered = nothing;
    parts = sym none;
    one_line = All-same (λ b. b ≢ 10) after [] none (All-nil (λ b. b ≢ 10));
    whole = whole_none o;
  }

  -- nothing more was read than what is pending
  pub fed_pending : (o : SeenSink) (pending : List ℕ) → IsOneLine pending → Fed A o o (pending ++ []) pending
  fed_pending o pending one = record {
    read = [];
    written = [];
    answered = nothing;
    parts = append-nil pending;
    one_line = one;
    whole = whole_none o;
  }

  pub fed_both : (o m t : SeenSink) (xs mid ys after : List ℕ) → Fed A o m xs mid → Fed A m t (mid ++ ys) after → Fed A o t (xs ++ ys) after
  fed_both o m t xs mid ys after f s = record {
    read = f.read ++ s.read;
    written = f.written ++ s.written;
    answered = answered_both f.read f.written s.read s.written f.answered s.answered;
    parts = ap (λ l. l ++ ys) f.parts ∙ append_assoc f.read mid ys ∙ ap (λ l. f.read ++ l) s.parts ∙ sym (append_assoc f.read s.read after);
    one_line = s.one_line;
    whole = whole_both o m t f.written s.written f.whole s.whole;
  }

  halts_behind : (o m t : SeenSink) (xs w rest : List ℕ) (end : Ending) → WrittenWhole xs o m → Halts A m t w rest end → Halts A o t (xs ++ w) rest end
  halts_behind o m t xs w rest ending.Closed first h =
      (h.0, h.1, h.2, h.3, h.4, whole_both o m t xs w first h.5)
  halts_behind o m t xs w rest ending.WriteFault first h =
      (h.0, h.1, h.2, h.3, h.4, h.5, cut_behind o m t xs w h.2 first h.6)
  halts_behind o m t xs w rest ending.Memory first h = whole_both o m t xs w first h
  halts_behind o m t xs w rest ending.TooLong first h = absurd h
  halts_behind o m t xs w rest ending.ReadFault first h = absurd h

  pub halted_behind : (o m t : SeenSink) (xs mid ys : List ℕ) (end : Ending) → Fed A o m xs mid → Halted A m t (mid ++ ys) end → Halted A o t (xs ++ ys) end
  halted_behind o m t xs mid ys end f h = record {
    read = f.read ++ h.read;
    written = f.written ++ h.written;
    answered = answered_both f.read f.written h.read h.written f.answered h.answered;
    rest = h.rest;
    parts = ap (λ l. l ++ ys) f.parts ∙ append_assoc f.read mid ys ∙ ap (λ l. f.read ++ l) h.parts ∙ sym (append_assoc f.read h.read h.rest);
    halts = halts_behind o m t f.written h.written h.rest end f.whole h.halts;
  }

  pub more_behind : (rest line more ys : List ℕ) → rest ≡ line ++ 10 ∷ more → rest ++ ys ≡ line ++ 10 ∷ (more ++ ys)
  more_behind rest line more ys e = ap (λ l. l ++ ys) e ∙ append_assoc line (10 ∷ more) ys

  halts_before : (o t : SeenSink) (w rest ys : List ℕ) (end : Ending) → Halts A o t w rest end → Halts A o t w (rest ++ ys) end
  halts_before o t w rest ys ending.Closed h =
      (h.0, h.1 ++ ys, more_behind rest h.0 h.1 ys h.2, h.3, h.4, h.5)
  halts_before o t w rest ys ending.WriteFault h =
      (h.0, h.1 ++ ys, h.2, more_behind rest h.0 h.1 ys h.3, h.4, h.5, h.6)
  halts_before o t w rest ys ending.Memory h = h
  halts_before o t w rest ys ending.TooLong h = h
  halts_before o t w rest ys ending.ReadFault h = h

  pub halted_before : (o t : SeenSink) (xs ys : List ℕ) (end : Ending) → Halted A o t xs end → Halted A o t (xs ++ ys) end
  halted_before o t xs ys end h = record {
    read = h.read;
    written = h.written;
    answered = h.answered;
    rest = h.rest ++ ys;
    parts = ap (λ l. l ++ ys) h.parts ∙ append_assoc h.read h.rest ys;
    halts = halts_before o t h.written h.rest ys end h.halts;
  }

-- ---- bytes of a piece

-- what stood before, and one more byte of the piece
one_further : (before piece : List ℕ) (i : ℕ) → i < length piece → (before ++ take i piece) ++ get_or piece i 0 ∷ [] ≡ before ++ take (i + 1) piece
one_further before piece i lt =
    append_assoc before (take i piece) (get_or piece i 0 ∷ []) ∙ ap (λ l. before ++ l) (sym (take_more piece i 0 lt))

module _ (A B : List ℕ → List ℕ → Type 0) (among : AreAmong A B) (o m t : SeenSink) (before piece mid : List ℕ) (i : ℕ) (lt : i < length piece) (fed : Fed A o m (before ++ take i piece) mid) where
  pub byte_followed : (after : List ℕ) → Fed B m t (mid ++ get_or piece i 0 ∷ []) after → Fed A o t (before ++ take (i + 1) piece) after
  byte_followed after next =
      subst (λ (x : List ℕ). Fed A o t x after) (one_further before piece i lt)
      (fed_both A o m t (before ++ take i piece) mid (get_or piece i 0 ∷ []) after fed (fed_among A B among m t _ after next))

  pub byte_halted : (end : Ending) → Halted B m t (mid ++ get_or piece i 0 ∷ []) end → Halted A o t (before ++ piece) end
  byte_halted end halted =
      let here : Halted A o t ((before ++ take i piece) ++ get_or piece i 0 ∷ []) end =
      halted_behind A o m t (before ++ take i piece) mid (get_or piece i 0 ∷ []) end fed (halted_among A B among m t (mid ++ get_or piece i 0 ∷ []) end halted) in
      let whole : ((before ++ take i piece) ++ get_or piece i 0 ∷ []) ++ drop (i + 1) piece ≡ before ++ piece =
      ap (λ l. l ++ drop (i + 1) piece) (one_further before piece i lt) ∙ append_assoc before (take (i + 1) piece) (drop (i + 1) piece) ∙ ap (λ l. before ++ l) (take-append-drop (i + 1) piece) in
      subst (λ (x : List ℕ). Halted A o t x end) whole (halted_before A o t ((before ++ take i piece) ++ get_or piece i 0 ∷ []) (drop (i + 1) piece) end here)

-- all of the piece
pub piece_fed : (A : List ℕ → List ℕ → Type 0) (o t : SeenSink) (before piece after : List ℕ) (i : ℕ) → length piece ≤ i → Fed A o t (before ++ take i piece) after → Fed A o t (before ++ piece) after
piece_fed A o t before piece after i le fed =
    subst (λ (x : List ℕ). Fed A o t (before ++ x) after) (take_all i piece le) fed
