-- The tokens of a text lie in it, one after the other.
use Rattle.std.proofs.Common.{◌≡◌, ℕ, zero, suc, ◌+◌, ◌-◌, ◌≤◌, Bool, true, false, cond, ◌&&◌, List, [], ◌∷◌, ◌++◌, map, length, take, drop, replicate, slice_range, refl, sym, ◌∙◌, ap, ap₂, subst, arith, Some, None, Option, unwrap_or, Result, IfOk, Ok, Err, true≢false, append_assoc, append-nil, nat_lt, IsUtf8, length-append, take-append-drop, le_refl}
use lib.Seq.{take-append_seam, drop-append_seam}
use lib.Utf8.{scalar, scalars}
use Rattle.std.specs.Char.{encode_utf8}
use Rattle.std.specs.List.{list_all}
use Rattle.std.specs.Str.{chars, encode_utf8_all, bytes_eq, is_utf8}
use Rattle.std.specs.Str.Lossy.{utf8_valid_len}
use Rattle.std.proofs.lemmas.Str.{length-encode, chars-encodes, encodes-append, encodes-chars, scalars-chars, IsUtf8-from_is_utf8}
use Rattle.layout_lexer.specs.declared.fault.LexFault.{LexFault}
use Rattle.layout_lexer.specs.declared.fault.LexFault.TheVariants.{TooLong, NotUtf8}
use Rattle.layout_lexer.specs.declared.blocks.Block.{Block}
use Rattle.layout_lexer.specs.declared.layout.Opener.{Opener}
use Rattle.layout_lexer.specs.declared.layout.Opener.TheVariants.{Nothing}
use Rattle.layout_lexer.specs.declared.scanner.Plain.{Plain}
use Rattle.layout_lexer.specs.declared.token.Kind.{Kind}
use Rattle.layout_lexer.specs.declared.token.Kind.TheVariants.{Open, Next, Close, Identifier}
use Rattle.layout_lexer.specs.declared.token.Token.{Token}
use Rattle.layout_lexer.specs.declared.words.TheConstants.{WORDS}
use Rattle.layout_lexer.specs.Words.{spelling, signs}
use Rattle.layout_lexer.specs.Places.{Place, past, past_all}
use Rattle.layout_lexer.specs.Pieces.{is_name, word_kind, spelled_in, kind_of, piece_len}
use Rattle.layout_lexer.specs.Scanning.{onto, onto_kind, plain, fresh_after, with_piece, scanned, tokens_left, end_of}
use Rattle.layout_lexer.specs.Layouts.{asks, begins_block, ended, begins_item, empty_block, marks_before, blocks_after, opener_of, mark, start_of, laid_out}
use Rattle.layout_lexer.specs.Texts.{whole, with_layout, spelled_tokens, tokens_of}
use Rattle.layout_lexer.specs.Slices.{is_mark, next_start, Stands, InText}

-- What is spelled is no mark.

found : (text : List ℕ) (kinds : List Kind) (kind : Kind) → list_all (λ k. cond (is_mark k) false true) kinds ≡ true → spelled_in kinds text ≡ Some kind → is_mark kind ≡ false
found text [] kind all h = absurd (cc)
found text (k ∷ ks) kind all h = by (is_mark k) refl (bytes_eq text (spelling k)) all h (found text ks kind)
  where
    by : (m : Bool) → is_mark k ≡ m → (b : Bool) → (cond m false true && list_all (λ x. cond (is_mark x) false true) ks) ≡ true → cond b (Some k) (spelled_in ks text) ≡ Some kind → (list_all (λ x. cond (is_mark x) false true) ks ≡ true → spelled_in ks text ≡ Some kind → is_mark kind ≡ false) → is_mark kind ≡ false
    by true e b all h rest = absurd (true≢false (sym all))
    by false e true all h rest = let same : k ≡ kind = cc in ap is_mark (sym same) ∙ e
    by false e false all h rest = rest all h

word_is_no_mark : (text : List ℕ) → is_mark (word_kind text) ≡ false
word_is_no_mark text = by (spelled_in WORDS.now text) refl
  where
    by : (word : Option Kind) → spelled_in WORDS.now text ≡ word → is_mark (unwrap_or word Identifier) ≡ false
    by None e = refl
    by (Some kind) e = found text WORDS.now kind refl e

no_mark : (text : List ℕ) (kind : Kind) → kind_of text ≡ Some kind → is_mark kind ≡ false
no_mark text kind h = by (is_name text) h
  where
    by : (b : Bool) → cond b (Some (word_kind text)) (spelled_in signs text) ≡ Some kind → is_mark kind ≡ false
    by true h = let same : word_kind text ≡ kind = cc in ap is_mark (sym same) ∙ word_is_no_mark text
    by false h = found text signs kind refl h

-- The tokens that are spelled, from a place on.

abbrev PlainsIn : List ℕ → ℕ → List Plain → Type 0
PlainsIn bytes from [] = from ≤ length bytes
PlainsIn bytes from (t ∷ ts) =
    (from ≤ t.token.start) × (t.token.start ≤ t.token.end) × (is_mark t.token.kind ≡ false)
    × (kind_of (chars (slice_range bytes t.token.start t.token.end)) ≡ Some t.token.kind) × PlainsIn bytes t.token.end ts

from_before : (bytes : List ℕ) (before from : ℕ) (ts : List Plain) → before ≤ from → PlainsIn bytes from ts → PlainsIn bytes before ts
from_before bytes before from [] h p = omega arith
from_before bytes before from (t ∷ ts) h p = (omega (arith, p.0), p.1, p.2, p.3, p.4)

at-past_all : (cs : List ℕ) (place : Place) → (past_all cs place).at ≡ place.at + length (encode_utf8_all cs)
at-past_all [] place = omega arith
at-past_all (c ∷ cs) place =
    omega (arith, at-past_all cs (past c place), length-encode c, length-append (encode_utf8 c) (encode_utf8_all cs))

scalars-take : (n : ℕ) (cs : List ℕ) → scalars cs ≡ true → scalars (take n cs) ≡ true
scalars-take zero cs h = refl
scalars-take (suc n) [] h = refl
scalars-take (suc n) (c ∷ cs) h = by (scalar c) h (scalars-take n cs)
  where
    by : (b : Bool) → (b && scalars cs) ≡ true → (scalars cs ≡ true → scalars (take n cs) ≡ true) → (b && scalars (take n cs)) ≡ true
    by true h rest = rest h
    by false h rest = absurd (true≢false (sym h))

scalars-rest : (c : ℕ) (cs : List ℕ) → scalars (c ∷ cs) ≡ true → scalars cs ≡ true
scalars-rest c cs h = by (scalar c) h
  where
    by : (b : Bool) → (b && scalars cs) ≡ true → scalars cs ≡ true
    by true h = h
    by false h = absurd (true≢false (sym h))

-- the bytes of a piece are its slice
piece_slice : (bytes before : List ℕ) (n : ℕ) (cs : List ℕ) (place : Place) → bytes ≡ before ++ encode_utf8_all cs → place.at ≡ length before → scalars cs ≡ true → chars (slice_range bytes place.at (past_all (take n cs) place).at) ≡ take n cs
piece_slice bytes before n cs place e at all =
    let piece = encode_utf8_all (take n cs) in
    let rest = encode_utf8_all (drop n cs) in
    let size : (past_all (take n cs) place).at - place.at ≡ length piece = omega (arith, at-past_all (take n cs) place) in
    let cut : bytes ≡ before ++ (piece ++ rest) =
    e ∙ ap (λ r. before ++ encode_utf8_all r) (sym (take-append-drop n cs)) ∙ ap (λ r. before ++ r) (encodes-append (take n cs) (drop n cs)) in
    let slice : slice_range bytes place.at (past_all (take n cs) place).at ≡ piece =
    ap₂ take size (ap₂ drop at cut ∙ drop-append_seam before (piece ++ rest)) ∙ take-append_seam piece rest in
    ap chars slice ∙ chars-encodes (take n cs) (scalars-take n cs all)

onto_ok : (t : Plain) (left : Result (List Plain) LexFault) (ts : List Plain) → onto t left ≡ Ok ts → (more : List Plain) × (left ≡ Ok more) × (ts ≡ t ∷ more)
onto_ok t (Ok more) ts h = (more, refl, cc)
onto_ok t (Err fault) ts h = absurd (cc)

plains_in : (bytes before : List ℕ) (fresh : Bool) (place : Place) (n : ℕ) (cs : List ℕ) (ts : List Plain) → bytes ≡ before ++ encode_utf8_all cs → place.at ≡ length before → scalars cs ≡ true → scanned fresh place n cs ≡ Ok ts → PlainsIn bytes (past_all (take n cs) place).at ts
plains_in bytes before fresh place zero [] ts e at all h =
    let none : ts ≡ [] = cc in
    subst (PlainsIn bytes place.at) (sym none) (omega (arith, ap (λ b. length b) e, length-append before []))
plains_in bytes before fresh place (suc n) [] ts e at all h =
    let none : ts ≡ [] = cc in
    subst (PlainsIn bytes place.at) (sym none) (omega (arith, ap (λ b. length b) e, length-append before []))
plains_in bytes before fresh place (suc n) (c ∷ cs) ts e at all h =
    plains_in bytes (before ++ encode_utf8 c) fresh (past c place) n cs ts
    (e ∙ sym (append_assoc before (encode_utf8 c) (encode_utf8_all cs)))
    (omega (arith, length-append before (encode_utf8 c), length-encode c)) (scalars-rest c cs all) h
plains_in bytes before fresh place zero (c ∷ cs) ts e at all h =
    at_piece (piece_len (c ∷ cs)) h
    (λ f m more. plains_in bytes (before ++ encode_utf8 c) f (past c place) m cs more
    (e ∙ sym (append_assoc before (encode_utf8 c) (encode_utf8_all cs)))
    (omega (arith, length-append before (encode_utf8 c), length-encode c)) (scalars-rest c cs all))
  where
    at_kind : (k : ℕ) (f : Bool) (kind : Option Kind) → kind_of (c ∷ take k cs) ≡ kind → onto_kind fresh place (past_all (c ∷ take k cs) place) kind (scanned f (past c place) k cs) ≡ Ok ts → ((more : List Plain) → scanned f (past c place) k cs ≡ Ok more → PlainsIn bytes (past_all (take k cs) (past c place)).at more) → PlainsIn bytes place.at ts
    at_kind k f None g h rest =
        from_before bytes place.at (past_all (c ∷ take k cs) place).at ts (omega (arith, at-past_all (c ∷ take k cs) place)) (rest ts h)
    at_kind k f (Some kind) g h rest =
        let t = plain fresh kind place (past_all (c ∷ take k cs) place) in
        let split = onto_ok t (scanned f (past c place) k cs) ts h in
        subst (PlainsIn bytes place.at) (sym split.2) (le_refl place.at, omega (arith, at-past_all (c ∷ take k cs) place), no_mark (c ∷ take k cs) kind g, ap kind_of (piece_slice bytes before (suc k) (c ∷ cs) place e at all) ∙ g, rest split.0 split.1)

    at_piece : (m : ℕ) → with_piece fresh place (c ∷ cs) (take m (c ∷ cs)) (scanned (fresh_after fresh (take m (c ∷ cs))) (past c place) (m - 1) cs) ≡ Ok ts → ((f : Bool) (k : ℕ) (more : List Plain) → scanned f (past c place) k cs ≡ Ok more → PlainsIn bytes (past_all (take k cs) (past c place)).at more) → PlainsIn bytes place.at ts
    at_piece zero h rest = absurd (cc)
    at_piece (suc k) h rest =
        let less : suc k - 1 ≡ k = omega arith in
        let f = fresh_after fresh (c ∷ take k cs) in
        at_kind k f (kind_of (c ∷ take k cs)) refl (ap (λ m. with_piece fresh place (c ∷ cs) (c ∷ take k cs) (scanned f (past c place) m cs)) (sym less) ∙ h) (rest f k)

-- Marks between them.

abbrev AllMarks : List Kind → Type 0
AllMarks marks = list_all is_mark marks ≡ true

both : (some more : List Kind) → AllMarks some → AllMarks more → AllMarks (some ++ more)
both [] more h g = g
both (m ∷ some) more h g = by (is_mark m) h (both some more)
  where
    by : (b : Bool) → (b && list_all is_mark some) ≡ true → (AllMarks some → AllMarks more → AllMarks (some ++ more)) → (b && list_all is_mark (some ++ more)) ≡ true
    by true h rest = rest h g
    by false h rest = absurd (true≢false (sym h))

closes : (n : ℕ) → AllMarks (replicate n Close)
closes zero = refl
closes (suc n) = closes n

empty_marks : (b : Bool) → AllMarks (cond b (Open ∷ Close ∷ []) [])
empty_marks true = refl
empty_marks false = refl

item_marks : (b : Bool) → AllMarks (cond b (Next ∷ []) [])
item_marks true = refl
item_marks false = refl

before_marks : (opener : Opener) (blocks : List Block) (t : Plain) → AllMarks (marks_before opener blocks t)
before_marks opener blocks t = by (begins_block opener blocks t) (ended opener blocks t)
  where
    by : (b : Bool) (n : ℕ) → AllMarks (cond b (Open ∷ []) (empty_block opener ++ replicate n Close ++ cond (begins_item (drop n blocks) t) (Next ∷ []) []))
    by true n = refl
    by false n =
        both (empty_block opener ++ replicate n Close) (cond (begins_item (drop n blocks) t) (Next ∷ []) [])
        (both (empty_block opener) (replicate n Close) (empty_marks (asks opener)) (closes n)) (item_marks (begins_item (drop n blocks) t))

in_before : (bytes : List ℕ) (before from : ℕ) (ts : List Token) → before ≤ from → InText bytes from ts → InText bytes before ts
in_before bytes before from [] h p = omega arith
in_before bytes before from (t ∷ ts) h p = (omega (arith, p.0), p.1, p.2, p.3)

marks_in : (bytes : List ℕ) (from : ℕ) (place : Place) (marks : List Kind) (ts : List Token) → AllMarks marks → from ≤ place.at → next_start (length bytes) ts ≡ place.at → InText bytes place.at ts → InText bytes from (map (mark place) marks ++ ts) × (next_start (length bytes) (map (mark place) marks ++ ts) ≡ place.at)
marks_in bytes from place [] ts all h next p = (in_before bytes from place.at ts h p, next)
marks_in bytes from place (m ∷ marks) ts all h next p = by (is_mark m) all (λ rest. marks_in bytes place.at place marks ts rest (le_refl place.at) next p)
  where
    by : (b : Bool) → (b && list_all is_mark marks) ≡ true → (AllMarks marks → InText bytes place.at (map (mark place) marks ++ ts) × (next_start (length bytes) (map (mark place) marks ++ ts) ≡ place.at)) → ((from ≤ place.at) × (place.at ≤ place.at) × Stands b bytes (next_start (length bytes) (map (mark place) marks ++ ts)) (mark place m) × InText bytes place.at (map (mark place) marks ++ ts)) × (cond b (next_start (length bytes) (map (mark place) marks ++ ts)) place.at ≡ place.at)
    by true all rest =
        let r = rest all in
        ((h, le_refl place.at, (sym r.1, sym r.1), r.0), r.1)
    by false all rest = absurd (true≢false (sym all))

laid_in : (bytes : List ℕ) (from : ℕ) (opener : Opener) (blocks : List Block) (end : Place) (ts : List Plain) → end.at ≡ length bytes → PlainsIn bytes from ts → InText bytes from (laid_out opener blocks end ts)
laid_in bytes from opener blocks end [] e p =
    let marks = empty_block opener ++ replicate (length blocks) Close in
    let all : AllMarks marks = both (empty_block opener) (replicate (length blocks) Close) (empty_marks (asks opener)) (closes (length blocks)) in
    subst (InText bytes from) (append-nil (map (mark end) marks)) (marks_in bytes from end marks [] all (omega arith) (sym e) (omega arith)).0
laid_in bytes from opener blocks end (t ∷ ts) e p =
    let rest = laid_out (opener_of t.token.kind) (blocks_after opener blocks t) end ts in
    let here : InText bytes t.token.start (t.token ∷ rest) = (le_refl t.token.start, p.1, subst (λ b. Stands b bytes (next_start (length bytes) rest) t.token) (sym p.2) p.3, laid_in bytes t.token.end (opener_of t.token.kind) (blocks_after opener blocks t) end ts e p.4) in
    let next : next_start (length bytes) (t.token ∷ rest) ≡ t.token.start = ap (λ b. cond b (next_start (length bytes) rest) t.token.start) p.2 in
    (marks_in bytes from (start_of t.token) (marks_before opener blocks t) (t.token ∷ rest) (before_marks opener blocks t) p.0 next here).0

-- Together.

laid_ok : (end : Place) (left : Result (List Plain) LexFault) (tokens : List Token) → with_layout end left ≡ Ok tokens → (plains : List Plain) × (left ≡ Ok plains) × (tokens ≡ laid_out Nothing [] end plains)
laid_ok end (Ok plains) tokens h = (plains, refl, cc)
laid_ok end (Err fault) tokens h = absurd (cc)

spelled_in_text : (bytes : List ℕ) (tokens : List Token) → IsUtf8 bytes → spelled_tokens (chars bytes) ≡ Ok tokens → InText bytes 0 tokens
spelled_in_text bytes tokens u h =
    let text = chars bytes in
    let back : bytes ≡ [] ++ encode_utf8_all text = sym (encodes-chars bytes u) in
    let laid = laid_ok (end_of (whole text)) (tokens_left (whole text)) tokens h in
    let end : (end_of (whole text)).at ≡ length bytes = omega (arith, at-past_all text (whole text).place, ap (λ b. length b) back) in
    subst (InText bytes 0) (sym laid.2) (laid_in bytes 0 Nothing [] (end_of (whole text)) laid.0 end (plains_in bytes [] true (whole text).place 0 text laid.0 back refl (scalars-chars bytes u) laid.1))

pub tokens_in_text : (bytes : List ℕ) (tokens : List Token) → tokens_of bytes ≡ Ok tokens → InText bytes 0 tokens
tokens_in_text bytes tokens h = by (nat_lt 16777216 (length bytes)) (is_utf8 bytes) refl h
  where
    by : (long text : Bool) → is_utf8 bytes ≡ text → cond long (Err TooLong) (cond text (spelled_tokens (chars bytes)) (Err (NotUtf8 (utf8_valid_len bytes)))) ≡ Ok tokens → InText bytes 0 tokens
    by true text e h = absurd (cc)
    by false true e h = spelled_in_text bytes tokens (IsUtf8-from_is_utf8 bytes e) h
    by false false e h = absurd (cc)

pub ok_in_text : (bytes : List ℕ) (answer : Result (List Token) LexFault) → IfOk answer (λ tokens. tokens_of bytes ≡ Ok tokens) → IfOk answer (InText bytes 0)
ok_in_text bytes (Ok tokens) h = tokens_in_text bytes tokens h
ok_in_text bytes (Err fault) h = tt
