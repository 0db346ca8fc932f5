-- Laws of a dialogue: where it stands between two reads, and how it ends.
use Rattle.std.proofs.Common.{◌≡◌, ◌≢◌, ℕ, ◌<◌, ◌≤◌, ◌+◌, ◌-◌, List, [], ◌∷◌, ◌++◌, length, length-append, arith, take, drop, ap, sym, refl, subst, ◌∙◌, append_assoc, append-nil, inl, inr, take-append-drop, take-take, length-take-le}
use Rattle.std.proofs.KnownBytes.{Consumes-nil, Consumes-trans, Consumes-kept}
use Rattle.std.proofs.Math.Seq.{take-append_seam}
use Rattle.std.proofs.lemmas.List.Elements.{All-same}
use Rattle.std.specs.Io.KnownBytes.{Consumes, IsAtEnd, Keeps}
use Rattle.host_io.specs.Counts.{one_more}
use Rattle.host_io.specs.Seen.{SeenSource, SeenSink}
use Rattle.host_io.specs.Streams.{ReadGives}
use Rattle.host_io.specs.declared.streams.Got.TheVariants as got
use Rattle.dialogue.specs.declared.talking.Ending.{Ending}
use Rattle.dialogue.specs.declared.talking.Ending.TheVariants as ending
use Rattle.dialogue.specs.Dialogues.{AreAmong, Ends, IsOneLine, Talked, a_line, at_end, at_last_quit, at_quit, limit, piece, the_last}
use Rattle.dialogue.specs.Steps.{Fed, Halted, Halts, LastAnswered, Stands}
use Rattle.dialogue.specs.Writes.{WrittenWhole}
use Rattle.dialogue.proofs.StepLaws.{cut_after, fed_among, fed_both, fed_none, halted_among, halted_behind, last_among, more_behind, whole_both, whole_kept}

module _ (A : List ℕ → List ℕ → Type 0) where
  pub stands_first : (i : SeenSource) (o : SeenSink) (pending : List ℕ) → pending ≡ [] → Stands A i i o o pending limit
  stands_first i o pending none = record {
    given = [];
    consumed = Consumes-nil i.left;
    no_fault = refl;
    fed = fed_none A o pending none;
    counted = refl;
  }

  pub stands_next : (i m n : SeenSource) (o t u : SeenSink) (p xs q : List ℕ) (r s : ℕ) → Stands A i m o t p r → Consumes m.left n.left xs → n.faults ≡ m.faults → Fed A t u (p ++ xs) q → length xs + s ≡ r → Stands A i n o u q s
  stands_next i m n o t u p xs q r s stands came none fed left = record {
    given = stands.given ++ xs;
    consumed = Consumes-trans i.left m.left n.left stands.given xs stands.consumed came;
    no_fault = none ∙ stands.no_fault;
    fed = fed_both A o t u stands.given p xs q stands.fed fed;
    counted = omega (arith, length-append stands.given xs, stands.counted, left);
  }

  -- what stands there is within the limit
  within : (given read rest : List ℕ) (r : ℕ) → given ≡ read ++ rest → length given + r ≡ limit → length (read ++ rest) ≤ limit
  within given read rest r parts counted = omega (arith, ap length parts, counted)

  pub talked_failed : (i m n : SeenSource) (o t : SeenSink) (p : List ℕ) (r : ℕ) → Stands A i m o t p r → Keeps m.left n.left → n.faults ≡ one_more m.faults → Talked A i n o t ending.ReadFault
  talked_failed i m n o t p r s kept fault = record {
    read = s.fed.read;
    written = s.fed.written;
    answered = s.fed.answered;
    rest = p;
    consumed = subst (Consumes i.left n.left) s.fed.parts (Consumes-kept i.left m.left n.left s.given s.consumed kept);
    few = omega (arith, within s.given s.fed.read p r s.fed.parts s.counted);
    ends = (fault ∙ ap one_more s.no_fault, s.fed.one_line, s.fed.whole);
  }

  ends_last : (i n : SeenSource) (o t u : SeenSink) (read written p : List ℕ) (end : Ending) → n.faults ≡ i.faults → IsAtEnd n.left → IsOneLine p → length (read ++ p) ≤ limit → WrittenWhole written o t → LastAnswered A p t u end → Ends A i n o u read written p end
  ends_last i n o t u read written p ending.Closed none end one few whole (inl l) =
      (none, (l.1, at_end end one l.0 few l.2, whole_both o t u written l.1 whole l.3))
  ends_last i n o t u read written p ending.Closed none end one few whole (inr l) =
      (none, ([], at_last_quit end l.0 few refl, whole_both o t u written [] whole l.1))
  ends_last i n o t u read written p ending.WriteFault none end one few whole l =
      (none, (l.0, the_last one l.1, cut_after o t u written l.0 whole l.2))
  ends_last i n o t u read written p ending.Memory none end one few whole l =
      (none, whole_kept o t u written whole l)
  ends_last i n o t u read written p ending.TooLong none end one few whole l = absurd l
  ends_last i n o t u read written p ending.ReadFault none end one few whole l = absurd l

  pub talked_last : (i m n : SeenSource) (o t u : SeenSink) (p : List ℕ) (r : ℕ) (end : Ending) → Stands A i m o t p r → Consumes m.left n.left [] → n.faults ≡ m.faults → IsAtEnd n.left → LastAnswered A p t u end → Talked A i n o u end
  talked_last i m n o t u p r end s came none at_its_end l =
      let few = within s.given s.fed.read p r s.fed.parts s.counted in
      record {
        read = s.fed.read;
        written = s.fed.written;
        answered = s.fed.answered;
        rest = p;
        consumed = subst (Consumes i.left n.left) (append-nil s.given ∙ s.fed.parts) (Consumes-trans i.left m.left n.left s.given [] s.consumed came);
        few = omega (arith, few);
        ends = ends_last i n o t u s.fed.read s.fed.written p end (none ∙ s.no_fault) at_its_end s.fed.one_line few s.fed.whole l;
      }

  ends_halted : (i n : SeenSource) (o u : SeenSink) (read written rest ys : List ℕ) (end : Ending) → n.faults ≡ i.faults → length (read ++ rest) ≤ limit → Halts A o u written rest end → Ends A i n o u read written (rest ++ ys) end
  ends_halted i n o u read written rest ys ending.Closed none few h = (
    none,
    (
      [],
      at_quit h.0 (h.1 ++ ys) (more_behind A rest h.0 h.1 ys h.2) h.3 h.4
          (omega (arith, few, length-append read rest, ap length h.2, length-append h.0 (10 ∷ h.1))) refl,
      subst (λ (x : List ℕ). WrittenWhole x o u) (sym (append-nil written)) h.5,
    ),
  )
  ends_halted i n o u read written rest ys ending.WriteFault none few h =
      (none, (h.2, a_line h.0 (h.1 ++ ys) (more_behind A rest h.0 h.1 ys h.3) h.4 h.5, h.6))
  ends_halted i n o u read written rest ys ending.Memory none few h = (none, h)
  ends_halted i n o u read written rest ys ending.TooLong none few h = absurd h
  ends_halted i n o u read written rest ys ending.ReadFault none few h = absurd h

  -- what was given, and the rest of what came
  parted : (given xs ys read rest : List ℕ) → given ++ xs ≡ read ++ rest → given ++ (xs ++ ys) ≡ read ++ (rest ++ ys)
  parted given xs ys read rest parts = sym (append_assoc given xs ys) ∙ ap (λ l. l ++ ys) parts ∙ append_assoc read rest ys

  pub talked_halted : (i m n : SeenSource) (o t u : SeenSink) (p xs ys : List ℕ) (r : ℕ) (end : Ending) → Stands A i m o t p r → Consumes m.left n.left (xs ++ ys) → n.faults ≡ m.faults → length xs ≤ r → length (xs ++ ys) ≤ piece → Halted A t u (p ++ xs) end → Talked A i n o u end
  talked_halted i m n o t u p xs ys r end s came none room small halted =
      let h = halted_behind A o t u s.given p xs end s.fed halted in
      let whole = parted s.given xs ys h.read h.rest h.parts in
      record {
        read = h.read;
        written = h.written;
        answered = h.answered;
        rest = h.rest ++ ys;
        consumed = subst (Consumes i.left n.left) whole (Consumes-trans i.left m.left n.left s.given (xs ++ ys) s.consumed came);
        few = omega (arith, ap length whole, length-append s.given (xs ++ ys), s.counted, small);
        ends = ends_halted i n o u h.read h.written h.rest ys end (none ∙ s.no_fault) (omega (arith, ap length h.parts, length-append s.given xs, s.counted, room)) h.halts;
      }

  pub talked_too_long : (i m n : SeenSource) (o t u : SeenSink) (p xs ys q : List ℕ) (r : ℕ) → Stands A i m o t p r → Consumes m.left n.left (xs ++ ys) → n.faults ≡ m.faults → length xs ≡ r → 0 < length ys → length (xs ++ ys) ≤ piece → Fed A t u (p ++ xs) q → Talked A i n o u ending.TooLong
  talked_too_long i m n o t u p xs ys q r s came none room some small fed =
      let f = fed_both A o t u s.given p xs q s.fed fed in
      let whole = parted s.given xs ys f.read q f.parts in
      let front : limit - length f.read ≡ length q = omega (arith, ap length f.parts, length-append s.given xs, length-append f.read q, s.counted, room) in
      let seam : take (limit - length f.read) (q ++ ys) ≡ q = ap (λ k. take k (q ++ ys)) front ∙ take-append_seam q ys in
      record {
        read = f.read;
        written = f.written;
        answered = f.answered;
        rest = q ++ ys;
        consumed = subst (Consumes i.left n.left) whole (Consumes-trans i.left m.left n.left s.given (xs ++ ys) s.consumed came);
        few = omega (arith, ap length whole, length-append s.given (xs ++ ys), s.counted, small);
        ends = (none ∙ s.no_fault, omega (arith, ap length whole, length-append s.given (xs ++ ys), length-append xs ys, s.counted, room, some), All-same (λ b. b ≢ 10) (take (limit - length f.read) (q ++ ys)) q seam f.one_line, f.whole);
      }

-- ---- after a read

module _ (A B : List ℕ → List ℕ → Type 0) (among : AreAmong A B) (i m n : SeenSource) (o t u : SeenSink) (p : List ℕ) (r : ℕ) (s : Stands A i m o t p r) (buf : List ℕ) (k : ℕ) (gives : ReadGives m.left n.left buf (got.Bytes k)) (none : n.faults ≡ m.faults) where
  pub talked_at_end : (line : List ℕ) (end : Ending) → k ≡ 0 → (got.Bytes k ≡ got.Bytes 0 → 0 < length buf → IsAtEnd n.left) → 0 < length buf → line ≡ p → LastAnswered B line t u end → Talked A i n o u end
  talked_at_end line end zero is_end some same l =
      let came : Consumes m.left n.left [] = subst (λ (x : ℕ). Consumes m.left n.left (take x buf)) zero gives.1 in
      talked_last A i m n o t u p r end s came none (is_end (ap got.Bytes zero) some)
      (last_among A B among p t u end (subst (λ (x : List ℕ). LastAnswered B x t u end) same l))

  module _ (fits : ℕ) (within_read : fits ≤ k) (long : length buf ≡ piece) where
    -- the read gave these bytes, and others behind them
    two_parts : take k buf ≡ take fits buf ++ drop fits (take k buf)
    two_parts = sym (take-append-drop fits (take k buf)) ∙ ap (λ l. l ++ drop fits (take k buf)) (take-take fits k buf within_read)

    came_in_two : Consumes m.left n.left (take fits buf ++ drop fits (take k buf))
    came_in_two = subst (Consumes m.left n.left) two_parts gives.1

    fitting : length (take fits buf) ≡ fits
    fitting = length-take-le fits buf (omega (arith, gives.0, within_read))

    all_read : length (take fits buf ++ drop fits (take k buf)) ≡ k
    all_read = sym (ap length two_parts) ∙ length-take-le k buf gives.0

    pub piece_halted : (end : Ending) → fits ≤ r → Halted B t u (p ++ take fits buf) end → Talked A i n o u end
    piece_halted end room halted =
        talked_halted A i m n o t u p (take fits buf) (drop fits (take k buf)) r end s came_in_two none
        (omega (arith, fitting, room)) (omega (arith, all_read, gives.0, long))
        (halted_among A B among t u (p ++ take fits buf) end halted)

    pub piece_too_long : (q : List ℕ) → fits ≡ r → r < k → Fed B t u (p ++ take fits buf) q → Talked A i n o u ending.TooLong
    piece_too_long q full more fed =
        talked_too_long A i m n o t u p (take fits buf) (drop fits (take k buf)) q r s came_in_two none
        (fitting ∙ full) (omega (arith, all_read, length-append (take fits buf) (drop fits (take k buf)), fitting, full, more))
        (omega (arith, all_read, gives.0, long)) (fed_among A B among t u (p ++ take fits buf) q fed)

  pub piece_taken : (fits : ℕ) (q : List ℕ) → fits ≡ k → k ≤ r → Fed B t u (p ++ take fits buf) q → Stands A i n o u q (r - k)
  piece_taken fits q whole room fed =
      let more : Fed A t u (p ++ take k buf) q =
      subst (λ (x : ℕ). Fed A t u (p ++ take x buf) q) whole (fed_among A B among t u (p ++ take fits buf) q fed) in
      stands_next A i m n o t u p (take k buf) q r (r - k) s gives.1 none more
      (omega (arith, length-take-le k buf gives.0, room))
