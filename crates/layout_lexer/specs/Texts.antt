-- The tokens of a text, given by its bytes.
use Rattle.std.specs.Prelude.{◌≡◌, ◌≢◌, ℕ, true, List, [], ◌++◌, length}
use Rattle.std.specs.Prelude.{nat_lt, if◌then◌else◌, Result, Ok, Err}
use Rattle.std.specs.Str.{chars, is_utf8, encode_utf8_all}
use Rattle.std.specs.Str.Lossy.{utf8_valid_len}
use Rattle.layout_lexer.specs.declared.fault.LexFault.{LexFault}
use Rattle.layout_lexer.specs.declared.fault.LexFault.TheVariants.{TooLong, NotUtf8, Memory}
use Rattle.layout_lexer.specs.declared.scanner.Plain.{Plain}
use Rattle.layout_lexer.specs.declared.token.Token.{Token}
use Rattle.layout_lexer.specs.declared.layout.Layout.{Layout}
use Rattle.layout_lexer.specs.declared.layout.Opener.TheVariants.{Nothing}
use Rattle.layout_lexer.specs.Places.{Place, Reading, start}
use Rattle.layout_lexer.specs.Scanning.{tokens_left, end_of}
use Rattle.layout_lexer.specs.Layouts.{laid_out}

-- a text that is read from its first character
abbrev pub whole : List ℕ → Reading
whole text = record { place = start; fresh = true; rest = text }

-- the characters of a text that stand before the rest of it
abbrev pub IsBefore : List ℕ → List ℕ → List ℕ → Type 0
IsBefore text rest read = chars text ≡ read ++ chars rest

-- these are their bytes
abbrev pub BytesBefore : List ℕ → List ℕ → List ℕ → Type 0
BytesBefore text rest bytes =
    (read : List ℕ) → IsBefore text rest read → bytes ≡ encode_utf8_all read

abbrev pub with_layout : Place → Result (List Plain) LexFault → Result (List Token) LexFault
with_layout end (Ok tokens) = Ok (laid_out Nothing [] end tokens)
with_layout end (Err fault) = Err fault

-- the tokens that these characters spell, with their marks, or the first fault
abbrev pub spelled_tokens : List ℕ → Result (List Token) LexFault
spelled_tokens text = with_layout (end_of (whole text)) (tokens_left (whole text))

-- the same of bytes, which may be too many, or no characters
abbrev pub tokens_of : List ℕ → Result (List Token) LexFault
tokens_of bytes =
    if nat_lt 16777216 (length bytes) then Err TooLong
    else (if is_utf8 bytes then spelled_tokens (chars bytes)
    else Err (NotUtf8 (utf8_valid_len bytes)))

-- the tokens of what is left of a text, after what is laid out so far
abbrev pub continued : Layout → Place → Result (List Plain) LexFault → Result (List Token) LexFault
continued layout end (Ok tokens) =
    Ok (layout.tokens ++ laid_out layout.opener layout.blocks end tokens)
continued layout end (Err fault) = Err fault

-- the fault is the answer, unless there was no memory
abbrev pub Fails : Result (List Token) LexFault → LexFault → Type 0
Fails answer fault = fault ≢ Memory → answer ≡ Err fault
