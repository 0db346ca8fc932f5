-- The tokens that the characters of a text spell, before layout: the text is cut in pieces, each
-- the longest that the rest begins with.
use Rattle.std.specs.Prelude.{◌≡◌, ◌<◌, ℕ, zero, suc, ◌-◌, Bool, false, ◌&&◌, ◌||◌, ◌==◌, List, []}
use Rattle.std.specs.Prelude.{◌∷◌, length, if◌then◌else◌, Option, Some, None, Result, Ok, Err}
use Rattle.std.specs.List.{list_any}
use Rattle.std.specs.Option.{is_some, option_map}
use Rattle.layout_lexer.specs.declared.fault.LexFault.{LexFault}
use Rattle.layout_lexer.specs.declared.fault.LexFault.TheVariants.{BadByte, OpenComment}
use Rattle.layout_lexer.specs.declared.token.Kind.{Kind}
use Rattle.layout_lexer.specs.declared.scanner.Plain.{Plain}
use Rattle.layout_lexer.specs.declared.pieces.Piece.{Piece}
use Rattle.layout_lexer.specs.declared.pieces.Piece.TheVariants as piece
use Rattle.layout_lexer.specs.Words.{signs}
use Rattle.layout_lexer.specs.Places.{Place, Reading, past, past_all, is_newline, moved, IsStep}
use Rattle.layout_lexer.specs.Pieces.{kind_of, spelled_in, piece_of, piece_len}
use Rattle.layout_lexer.specs.Pieces.{opens_comment, begins}

-- a token, before the rest of the tokens
abbrev pub onto : Plain → Result (List Plain) LexFault → Result (List Plain) LexFault
onto token (Ok tokens) = Ok (token ∷ tokens)
onto token (Err fault) = Err fault

-- the token of that kind from one place to another
abbrev pub plain : Bool → Kind → Place → Place → Plain
plain fresh kind place end =
    record {
      token = record { kind = kind; start = place.at; end = end.at; column = place.column };
      first = fresh;
    }

-- what is wrong where a text begins with no piece
abbrev pub fault_at : Place → List ℕ → LexFault
fault_at place text = if opens_comment text then OpenComment place.at else BadByte place.at

-- whether the line has no token yet after a piece
abbrev pub fresh_after : Bool → List ℕ → Bool
fresh_after fresh piece =
    if is_some (kind_of piece) then false else (fresh || list_any is_newline piece)

-- a token from one place to another, if there is one, before the rest of the tokens
abbrev pub onto_kind : Bool → Place → Place → Option Kind →
    Result (List Plain) LexFault → Result (List Plain) LexFault
onto_kind fresh place end None rest = rest
onto_kind fresh place end (Some kind) rest = onto (plain fresh kind place end) rest

-- a piece of a text, before the tokens of the rest: a fault where there is no piece, and nothing
-- for space and comments
abbrev pub with_piece : Bool → Place → List ℕ → List ℕ →
    Result (List Plain) LexFault → Result (List Plain) LexFault
with_piece fresh place text [] rest = Err (fault_at place text)
with_piece fresh place text (c ∷ cs) rest =
    onto_kind fresh place (past_all (c ∷ cs) place) (kind_of (c ∷ cs)) rest

-- the tokens of a text of which the first n characters belong to the piece before
abbrev pub scanned : Bool → Place → ℕ → List ℕ → Result (List Plain) LexFault
scanned fresh place n [] = Ok []
scanned fresh place (suc n) (c ∷ cs) = scanned fresh (past c place) n cs
scanned fresh place zero (c ∷ cs) =
    with_piece fresh place (c ∷ cs) (piece_of (c ∷ cs))
    (scanned (fresh_after fresh (piece_of (c ∷ cs))) (past c place) (piece_len (c ∷ cs) - 1) cs)

-- the tokens of what is left of a text, and the place where it ends
abbrev pub tokens_left : Reading → Result (List Plain) LexFault
tokens_left reading = scanned reading.fresh reading.place 0 reading.rest

abbrev pub end_of : Reading → Place
end_of reading = past_all reading.rest reading.place

-- what was read where a piece begins, and where the reader then stands
abbrev pub PieceIs : Reading → Reading → Piece → Type 0
PieceIs old new piece.Gap =
    (0 < piece_len old.rest) × (kind_of (piece_of old.rest) ≡ None) ×
    (new ≡ moved (piece_len old.rest) old)
PieceIs old new (piece.Token kind) =
    (0 < piece_len old.rest) × (kind_of (piece_of old.rest) ≡ Some kind) ×
    (new ≡ moved (piece_len old.rest) old)
PieceIs old new (piece.Fault fault) =
    (0 < length old.rest) × (piece_len old.rest ≡ 0) × (fault ≡ fault_at old.place old.rest)

abbrev pub PieceRead : Reading → Reading → Option Piece → Type 0
PieceRead old new None = (old.rest ≡ []) × (new ≡ old)
PieceRead old new (Some piece) = PieceIs old new piece

-- two characters are these, of which the first was read and the next may come
abbrev pub begins_as : ℕ → ℕ → ℕ → Option ℕ → Bool
begins_as a b first None = false
begins_as a b first (Some second) = first == a && second == b

-- the sign of two such characters
abbrev pub sign_of_two : ℕ → Option ℕ → Option Kind
sign_of_two first None = None
sign_of_two first (Some second) = spelled_in signs (first ∷ second ∷ [])

-- what was read after a character at a place
abbrev pub SignRead : ℕ → ℕ → Reading → Reading → Piece → Type 0
SignRead first at mid new piece =
    (old : Reading) → IsStep old first mid → old.place.at ≡ at → PieceIs old new piece

-- what a character is that begins no longer sign
abbrev pub one_sign : ℕ → ℕ → Piece
one_sign c at = elim
    (spelled_in signs (c ∷ [])) [ None ↦ piece.Fault (BadByte at) | Some kind ↦ piece.Token kind ]

-- how many characters there are up to and with the first `-}`
abbrev pub close_len : List ℕ → Option ℕ
close_len [] = None
close_len (c ∷ cs) = if begins 45 125 (c ∷ cs) then Some 2 else option_map suc (close_len cs)

-- past the first `-}`, if there is one
abbrev pub closed : Reading → Option Reading
closed reading = option_map (λ n. moved n reading) (close_len reading.rest)

-- the next token, if any, and where the reader then stands
abbrev pub TokenRead : Reading → Reading → Option Plain → Type 0
TokenRead old new None = (tokens_left old ≡ Ok []) × (new.place ≡ end_of old)
TokenRead old new (Some token) =
    (tokens_left old ≡ onto token (tokens_left new)) ×
    (end_of new ≡ end_of old) × (length new.rest < length old.rest)

-- what is answered: a token or none, or the fault
abbrev pub TokenAnswer : Reading → Reading → Result (Option Plain) LexFault → Type 0
TokenAnswer old new (Ok token) = TokenRead old new token
TokenAnswer old new (Err fault) = tokens_left old ≡ Err fault
