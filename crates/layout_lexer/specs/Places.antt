-- Where a character of a text stands, and how a text is read.
use Rattle.std.specs.Prelude.{◌≡◌, ℕ, zero, suc, ◌+◌, ◌*◌, ◌/◌, Bool, false, ◌||◌, ◌==◌}
use Rattle.std.specs.Prelude.{List, [], ◌∷◌, if◌then◌else◌, Option, Some, None}
use Rattle.std.specs.Char.{len_utf8}

-- by bytes, and by its column
pub record Place : Type 0 where
  pub at : ℕ
  pub column : ℕ

abbrev pub start : Place
start = record { at = 0; column = 1 }

abbrev pub place_at : ℕ → ℕ → Place
place_at at column = record { at = at; column = column }

abbrev pub is_newline : ℕ → Bool
is_newline c = c == 10

-- the column after a character: a tab moves to the next one of the form 8k + 1
abbrev pub column_after : ℕ → ℕ → ℕ
column_after c column =
    if is_newline c then 1 else (if c == 9 then (column + 7) / 8 * 8 + 1 else column + 1)

-- the place after a character
abbrev pub past : ℕ → Place → Place
past c place = record { at = place.at + len_utf8 c; column = column_after c place.column }

-- the place after these characters
abbrev pub past_all : List ℕ → Place → Place
past_all [] place = place
past_all (c ∷ cs) place = past_all cs (past c place)

-- what is left of a text, where it stands, and whether its line has no token yet
pub record Reading : Type 0 where
  pub place : Place
  pub fresh : Bool
  pub rest : List ℕ

-- one character further
abbrev pub step : Reading → ℕ → List ℕ → Reading
step reading c cs =
    record { place = past c reading.place; fresh = reading.fresh || is_newline c; rest = cs }

-- a character was read
abbrev pub IsStep : Reading → ℕ → Reading → Type 0
IsStep old c new = (old.rest ≡ c ∷ new.rest) × (new ≡ step old c new.rest)

-- a character was read, or there was none
abbrev pub CharRead : Reading → Reading → Option ℕ → Type 0
CharRead old new None = (old.rest ≡ []) × (new ≡ old)
CharRead old new (Some c) = IsStep old c new

-- its line has a token
abbrev pub noted : Reading → Reading
noted reading = record { place = reading.place; fresh = false; rest = reading.rest }

-- the character that comes
abbrev pub first_of : List ℕ → Option ℕ
first_of [] = None
first_of (c ∷ cs) = Some c

-- n characters further
abbrev pub moved : ℕ → Reading → Reading
moved zero reading = reading
moved (suc n) reading = elim reading.rest [ [] ↦ reading | c ∷ cs ↦ moved n (step reading c cs) ]
