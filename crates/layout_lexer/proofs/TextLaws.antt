-- Tokens that are laid out one by one.
use Rattle.std.proofs.Common.{◌≡◌, ℕ, ◌≤◌, Bool, true, false, cond, le-ltb, List, [], ◌∷◌, ◌++◌, map, length, refl, sym, ◌∙◌, ap, append_assoc, Some, None, Result, Ok, Err}
use Rattle.std.specs.Str.{chars, is_utf8, IsUtf8}
use Rattle.std.specs.Str.Lossy.{utf8_valid_len}
use Rattle.std.proofs.lemmas.Str.{is_utf8-from_IsUtf8, IsUtf8-from_is_utf8}
use Rattle.layout_lexer.specs.declared.fault.LexFault.{LexFault}
use Rattle.layout_lexer.specs.declared.fault.LexFault.TheVariants.{TooLong, NotUtf8}
use Rattle.layout_lexer.specs.declared.layout.Layout.{Layout}
use Rattle.layout_lexer.specs.declared.layout.Opener.TheVariants.{Nothing}
use Rattle.layout_lexer.specs.declared.scanner.Plain.{Plain}
use Rattle.layout_lexer.specs.declared.token.Token.{Token}
use Rattle.layout_lexer.specs.Places.{Place, Reading}
use Rattle.layout_lexer.specs.Layouts.{mark, start_of, marks_before, blocks_after, opener_of, laid_out, appended, finished}
use Rattle.layout_lexer.specs.Scanning.{onto, tokens_left, end_of, TokenRead}
use Rattle.layout_lexer.specs.Texts.{whole, with_layout, spelled_tokens, tokens_of, continued}

nothing_yet : (end : Place) (left : Result (List Plain) LexFault) → with_layout end left ≡ continued (record { tokens = []; blocks = []; opener = Nothing }) end left
nothing_yet end (Ok tokens) = refl
nothing_yet end (Err fault) = refl

one_more : (layout : Layout) (end : Place) (t : Plain) (left : Result (List Plain) LexFault) → continued layout end (onto t left) ≡ continued (appended layout t) end left
one_more layout end t (Ok tokens) =
    let marks = map (mark (start_of t.token)) (marks_before layout.opener layout.blocks t) in
    let rest = laid_out (opener_of t.token.kind) (blocks_after layout.opener layout.blocks t) end tokens in
    ap Ok (sym (append_assoc (layout.tokens ++ marks) (t.token ∷ []) rest ∙ append_assoc layout.tokens marks (t.token ∷ rest)))
one_more layout end t (Err fault) = refl

pub text_begins : (text : List ℕ) (cursor : Reading) (layout : Layout) → cursor ≡ whole text → layout ≡ record { tokens = []; blocks = []; opener = Nothing } → spelled_tokens text ≡ continued layout (end_of cursor) (tokens_left cursor)
text_begins text cursor layout c l =
    nothing_yet (end_of (whole text)) (tokens_left (whole text))
    ∙ sym (ap (λ x. continued x (end_of cursor) (tokens_left cursor)) l ∙ ap (λ x. continued (record { tokens = []; blocks = []; opener = Nothing }) (end_of x) (tokens_left x)) c)

pub text_goes_on : (text : List ℕ) (old new : Reading) (layout next : Layout) (t : Plain) → spelled_tokens text ≡ continued layout (end_of old) (tokens_left old) → TokenRead old new (Some t) → next ≡ appended layout t → spelled_tokens text ≡ continued next (end_of new) (tokens_left new)
text_goes_on text old new layout next t h r e =
    h ∙ ap (continued layout (end_of old)) r.0 ∙ one_more layout (end_of old) t (tokens_left new)
    ∙ sym (ap (λ x. continued x (end_of new) (tokens_left new)) e ∙ ap (λ p. continued (appended layout t) p (tokens_left new)) r.1)

pub text_ends : (text : List ℕ) (old new : Reading) (layout : Layout) (tokens : List Token) → spelled_tokens text ≡ continued layout (end_of old) (tokens_left old) → TokenRead old new None → tokens ≡ finished layout new.place → spelled_tokens text ≡ Ok tokens
text_ends text old new layout tokens h r e =
    h ∙ ap (continued layout (end_of old)) r.0 ∙ ap Ok (sym (e ∙ ap (finished layout) r.1))

pub text_fails : (text : List ℕ) (old : Reading) (layout : Layout) (fault : LexFault) → spelled_tokens text ≡ continued layout (end_of old) (tokens_left old) → tokens_left old ≡ Err fault → spelled_tokens text ≡ Err fault
text_fails text old layout fault h e = h ∙ ap (continued layout (end_of old)) e

no_longer : (bytes : List ℕ) → length bytes ≤ 16777216 → tokens_of bytes ≡ cond (is_utf8 bytes) (spelled_tokens (chars bytes)) (Err (NotUtf8 (utf8_valid_len bytes)))
no_longer bytes h =
    ap (λ b. cond b (Err TooLong) (cond (is_utf8 bytes) (spelled_tokens (chars bytes)) (Err (NotUtf8 (utf8_valid_len bytes))))) (le-ltb 16777216 (length bytes) h)

-- bytes that are characters
pub of_text : (text bytes : List ℕ) → length bytes ≤ 16777216 → (text ≡ bytes) × IsUtf8 bytes → spelled_tokens (chars text) ≡ tokens_of bytes
of_text text bytes h u =
    ap (λ t. spelled_tokens (chars t)) u.0
    ∙ sym (no_longer bytes h ∙ ap (λ b. cond b (spelled_tokens (chars bytes)) (Err (NotUtf8 (utf8_valid_len bytes)))) (is_utf8-from_IsUtf8 bytes u.1))

-- bytes that are none
pub of_no_text : (bytes : List ℕ) (n : ℕ) → length bytes ≤ 16777216 → ¬ (IsUtf8 bytes) → n ≡ utf8_valid_len bytes → tokens_of bytes ≡ Err (NotUtf8 n)
of_no_text bytes n h none e =
    no_longer bytes h ∙ ap (λ b. cond b (spelled_tokens (chars bytes)) (Err (NotUtf8 (utf8_valid_len bytes)))) (by (is_utf8 bytes) refl)
    ∙ ap (λ k. Err (NotUtf8 k)) (sym e)
  where
    by : (b : Bool) → is_utf8 bytes ≡ b → b ≡ false
    by false f = refl
    by true f = absurd (none (IsUtf8-from_is_utf8 bytes f))
