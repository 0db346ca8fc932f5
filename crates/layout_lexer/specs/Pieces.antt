-- The pieces of a text: space, comments and tokens. Texts are lists of characters here.
use Rattle.std.specs.Prelude.{ℕ, zero, suc, Bool, true, false, not, ◌&&◌, ◌||◌, ◌==◌, List, []}
use Rattle.std.specs.Prelude.{◌∷◌, length, take, drop, if◌then◌else◌, Option, Some, is_some}
use Rattle.std.specs.Option.{unwrap_or}
use Rattle.std.specs.List.{find, list_all, prefix_len}
use Rattle.std.specs.Str.{bytes_eq}
use Rattle.unicode_ident.specs.Ident.{is_xid_start, is_xid_continue}
use Rattle.layout_lexer.specs.declared.token.Kind.{Kind}
use Rattle.layout_lexer.specs.declared.token.Kind.TheVariants.{Identifier}
use Rattle.layout_lexer.specs.declared.words.TheConstants.{WORDS}
use Rattle.layout_lexer.specs.Words.{spelling, signs}
use Rattle.layout_lexer.specs.Places.{is_newline}

-- names: an underscore may begin one, and a prime may continue one
abbrev pub starts_name : ℕ → Bool
starts_name c = is_xid_start c || c == 95

abbrev pub continues_name : ℕ → Bool
continues_name c = is_xid_continue c || c == 39

abbrev pub is_name : List ℕ → Bool
is_name [] = false
is_name (c ∷ cs) = starts_name c && list_all continues_name cs

-- how many characters go on with a name
abbrev pub name_rest : List ℕ → ℕ
name_rest text = prefix_len continues_name text

-- the name that begins with a character and goes on with those that follow it
abbrev pub name_from : ℕ → List ℕ → List ℕ
name_from first rest = first ∷ take (name_rest rest) rest

-- the first of these kinds that is so spelled
abbrev pub spelled_in : List Kind → List ℕ → Option Kind
spelled_in kinds text = find (λ kind. bytes_eq text (spelling kind)) kinds

-- a name is a word or an identifier
abbrev pub word_kind : List ℕ → Kind
word_kind name = unwrap_or (spelled_in WORDS.now name) Identifier

-- the token that the characters spell: a name or a sign
abbrev pub kind_of : List ℕ → Option Kind
kind_of text = if is_name text then Some (word_kind text) else spelled_in signs text

-- a space, a tab, a carriage return or a newline
abbrev pub is_space : ℕ → Bool
is_space c = c == 32 || c == 9 || c == 13 || is_newline c

abbrev pub is_one_space : List ℕ → Bool
is_one_space [] = false
is_one_space (c ∷ []) = is_space c
is_one_space (c ∷ d ∷ ds) = false

-- the characters begin with these two
abbrev pub begins : ℕ → ℕ → List ℕ → Bool
begins a b [] = false
begins a b (c ∷ []) = false
begins a b (c ∷ d ∷ ds) = c == a && d == b

abbrev pub stays_on_line : ℕ → Bool
stays_on_line c = not (is_newline c)

-- `--`, and what follows on its line
abbrev pub is_line_comment : List ℕ → Bool
is_line_comment text = begins 45 45 text && list_all stays_on_line text

abbrev pub is_one : List ℕ → Bool
is_one [] = false
is_one (c ∷ []) = true
is_one (c ∷ d ∷ ds) = false

-- the characters end with their first `-}`
abbrev pub ends_with_close : List ℕ → Bool
ends_with_close [] = false
ends_with_close (c ∷ cs) = if begins 45 125 (c ∷ cs) then is_one cs else ends_with_close cs

-- `{-`, and what follows up to and with the next `-}`
abbrev pub opens_comment : List ℕ → Bool
opens_comment text = begins 123 45 text

abbrev pub is_block_comment : List ℕ → Bool
is_block_comment text = opens_comment text && ends_with_close (drop 2 text)

abbrev pub is_piece : List ℕ → Bool
is_piece text =
    is_one_space text || is_line_comment text || is_block_comment text || is_some (kind_of text)

-- how many characters the longest of the first n prefixes has that passes, 0 where none does
abbrev pub longest : (List ℕ → Bool) → ℕ → List ℕ → ℕ
longest passes zero text = 0
longest passes (suc n) text = if passes (take (suc n) text) then suc n else longest passes n text

-- the longest piece that a text begins with; nothing where it begins with none
abbrev pub piece_len : List ℕ → ℕ
piece_len text = longest is_piece (length text) text

abbrev pub piece_of : List ℕ → List ℕ
piece_of text = take (piece_len text) text
