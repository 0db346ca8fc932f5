-- How the tokens of a text lie in it.
use Rattle.std.specs.Prelude.{◌≡◌, ◌≤◌, ℕ, Bool, true, false, List, [], ◌∷◌}
use Rattle.std.specs.Prelude.{length, slice_range, if◌then◌else◌, Some}
use Rattle.std.specs.Str.{chars}
use Rattle.layout_lexer.specs.declared.token.Kind.{Kind}
use Rattle.layout_lexer.specs.declared.token.Kind.TheVariants.{Open, Next, Close}
use Rattle.layout_lexer.specs.declared.token.Token.{Token}
use Rattle.layout_lexer.specs.Pieces.{kind_of}

abbrev pub is_mark : Kind → Bool
is_mark Open = true
is_mark Next = true
is_mark Close = true
is_mark _ = false

-- where the first token begins that is no mark, or the end of the text
abbrev pub next_start : ℕ → List Token → ℕ
next_start end [] = end
next_start end (t ∷ ts) = if is_mark t.kind then next_start end ts else t.start

-- a mark stands where the next token begins, and the bytes of another token spell it
abbrev pub Stands : Bool → List ℕ → ℕ → Token → Type 0
Stands true bytes next t = (t.start ≡ next) × (t.end ≡ next)
Stands false bytes next t = kind_of (chars (slice_range bytes t.start t.end)) ≡ Some t.kind

-- from a place on, the tokens follow one another in the text, each from the end of the one before
-- or later
abbrev pub InText : List ℕ → ℕ → List Token → Type 0
InText bytes from [] = from ≤ length bytes
InText bytes from (t ∷ ts) =
    (from ≤ t.start) × (t.start ≤ t.end) ×
    Stands (is_mark t.kind) bytes (next_start (length bytes) ts) t
    × InText bytes t.end ts
