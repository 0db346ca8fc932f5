-- What a reader of rows answers.
use Rattle.std.specs.Prelude.{◌≡◌, ◌<◌, ◌+◌, ℕ, List, [], length}
use Rattle.std.specs.Io.BufRead.{take_through, drop_through}
use Rattle.deriv_file.specs.declared.row.Row.{Row}
use Rattle.deriv_file.specs.declared.reader.Next.{Next}
use Rattle.deriv_file.specs.declared.reader.Next.TheVariants as next
use Rattle.deriv_file.specs.Spelling.{Spells, newest, version_after}
use Rattle.deriv_file.specs.Reading.{Reading}

-- at the first row of a file
abbrev pub start : List ℕ → Reading
start bytes = record { rest = bytes; at = 0; version = newest }

-- the line that comes, with its newline where it has one
abbrev pub line_of : Reading → List ℕ
line_of reading = take_through 10 reading.rest

-- past that line, which spells the row
abbrev pub past : Reading → Row → Reading
past reading row = record {
  rest = drop_through 10 reading.rest;
  at = reading.at + 1;
  version = version_after reading.version row;
}

-- what `next` answers, and where the reader then stands
abbrev pub NextIs : Reading → Reading → Next → Type 0
NextIs old new (next.Row row) =
    (0 < length old.rest) × Spells old.version old.at (line_of old) row × (new ≡ past old row)
NextIs old new next.End = (old.rest ≡ []) × (new ≡ old)
NextIs old new (next.BadSpelling k) =
    (0 < length old.rest) × (k ≡ old.at) ×
    ((row : Row) → Spells old.version old.at (line_of old) row → ⊥) × (new ≡ old)
