-- The words of the table are ASCII, so that a name may be compared with them by its bytes.
use Rattle.std.proofs.Common.{◌≡◌, ℕ, ◌<◌, ◌≤◌, nat_le, length, leb-true, le-leb, le_refl, arith, Bool, true, false, cond, ◌&&◌, List, [], ◌∷◌, refl, sym, ◌∙◌, ap, true≢false, Some, None}
use Rattle.std.specs.List.{list_all}
use Rattle.std.specs.Str.{bytes_eq, encode_utf8_all}
use lib.Utf8.{encode}
use Rattle.std.proofs.lemmas.Slice.Eq.{bytes_eq-Decides}
use Rattle.std.proofs.lemmas.Bool.Decides.{same_from_decides}
use Rattle.std.proofs.lemmas.Str.{encodes_same}
use Rattle.layout_lexer.specs.declared.token.Kind.{Kind}
use Rattle.layout_lexer.specs.declared.words.TheConstants.{WORDS}
use Rattle.layout_lexer.specs.Words.{spelling, rises}
use Rattle.layout_lexer.specs.Pieces.{spelled_in}

-- the characters of the word are its bytes
abbrev is_own_bytes : List ℕ → Bool
is_own_bytes word = bytes_eq (encode_utf8_all word) word

compared : (name word : List ℕ) → is_own_bytes word ≡ true → bytes_eq (encode_utf8_all name) word ≡ bytes_eq name word
compared name word h =
    let own : encode_utf8_all word ≡ word = (bytes_eq-Decides (encode_utf8_all word) word).0 h in
    let bytes = bytes_eq-Decides (encode_utf8_all name) word in
    let characters = bytes_eq-Decides name word in
    same_from_decides {P = name ≡ word} (bytes_eq (encode_utf8_all name) word) (bytes_eq name word)
    (λ e. encodes_same name word (bytes.0 e ∙ sym own), λ e. bytes.1 (ap encode_utf8_all e ∙ own))
    characters

spelled_bytes : (name : List ℕ) (kinds : List Kind) → list_all (λ kind. is_own_bytes (spelling kind)) kinds ≡ true → spelled_in kinds (encode_utf8_all name) ≡ spelled_in kinds name
spelled_bytes name [] h = refl
spelled_bytes name (kind ∷ kinds) h = by (is_own_bytes (spelling kind)) refl h (spelled_bytes name kinds)
  where
    by : (b : Bool) → is_own_bytes (spelling kind) ≡ b → (b && list_all (λ k. is_own_bytes (spelling k)) kinds) ≡ true → (list_all (λ k. is_own_bytes (spelling k)) kinds ≡ true → spelled_in kinds (encode_utf8_all name) ≡ spelled_in kinds name) → spelled_in (kind ∷ kinds) (encode_utf8_all name) ≡ spelled_in (kind ∷ kinds) name
    by true e h rest =
        ap (λ b. cond b (Some kind) (spelled_in kinds (encode_utf8_all name))) (compared name (spelling kind) e)
        ∙ ap (λ k. cond (bytes_eq name (spelling kind)) (Some kind) k) (rest h)
    by false e h rest = absurd (true≢false (sym h))

words_are_bytes : list_all (λ kind. is_own_bytes (spelling kind)) WORDS.now ≡ true
unfolding encode
words_are_bytes = refl

pub word_bytes : (name : List ℕ) → spelled_in WORDS.now (encode_utf8_all name) ≡ spelled_in WORDS.now name
word_bytes name = spelled_bytes name WORDS.now words_are_bytes

-- a text that is shorter than those that come is none of them
pub none_so_short : (least : ℕ) (kinds : List Kind) (text : List ℕ) → rises least kinds ≡ true → length text < least → spelled_in kinds text ≡ None
none_so_short least [] text h short = refl
none_so_short least (kind ∷ kinds) text h short =
    by (nat_le least (length (spelling kind))) refl (bytes_eq text (spelling kind)) refl h (none_so_short (length (spelling kind)) kinds text)
  where
    by : (b : Bool) → nat_le least (length (spelling kind)) ≡ b → (same : Bool) → bytes_eq text (spelling kind) ≡ same → (b && rises (length (spelling kind)) kinds) ≡ true → (rises (length (spelling kind)) kinds ≡ true → length text < length (spelling kind) → spelled_in kinds text ≡ None) → cond same (Some kind) (spelled_in kinds text) ≡ None
    by false e same f h rest = absurd (true≢false (sym h))
    by true e true f h rest =
        let long : least ≤ length (spelling kind) = leb-true least (length (spelling kind)) e in
        let size : length text ≡ length (spelling kind) = ap (λ w. length w) ((bytes_eq-Decides text (spelling kind)).0 f) in
        absurd (omega arith)
    by true e false f h rest =
        let long : least ≤ length (spelling kind) = leb-true least (length (spelling kind)) e in
        rest h (omega arith)

pub rises-rest : (least : ℕ) (kind : Kind) (kinds : List Kind) → rises least (kind ∷ kinds) ≡ true → rises (length (spelling kind)) kinds ≡ true
rises-rest least kind kinds h = by (nat_le least (length (spelling kind))) h
  where
    by : (b : Bool) → (b && rises (length (spelling kind)) kinds) ≡ true → rises (length (spelling kind)) kinds ≡ true
    by true h = h
    by false h = absurd (true≢false (sym h))

-- the first of these is longer than the text
pub first_longer : (least : ℕ) (kind : Kind) (kinds : List Kind) (text : List ℕ) → rises least (kind ∷ kinds) ≡ true → length text < length (spelling kind) → spelled_in (kind ∷ kinds) text ≡ None
first_longer least kind kinds text h short =
    none_so_short (length (spelling kind)) (kind ∷ kinds) text (by (leb-refl) (rises-rest least kind kinds h)) short
  where
    leb-refl : nat_le (length (spelling kind)) (length (spelling kind)) ≡ true
    leb-refl = le-leb (length (spelling kind)) (length (spelling kind)) (le_refl (length (spelling kind)))

    by : nat_le (length (spelling kind)) (length (spelling kind)) ≡ true → rises (length (spelling kind)) kinds ≡ true → rises (length (spelling kind)) (kind ∷ kinds) ≡ true
    by e h = ap (λ b. b && rises (length (spelling kind)) kinds) e ∙ h
