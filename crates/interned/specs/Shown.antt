-- What contracts see of interned rows.
use Rattle.std.specs.Prelude.{ℕ, ◌/◌, min, List, Option, slice_get, option_and_then}
use Rattle.trees.specs.Things.{Thing, Meanings}
use Rattle.interned.specs.Coding.{thing_coded}
use Rattle.interned.specs.Coded.{things_coded}
use Rattle.interned.specs.declared.interned_rows.InternedRows.{InternedRows}

-- what each row means
abbrev pub things : InternedRows → List Thing
things s = things_coded s.region.rows

abbrev pub rows_mean : InternedRows → Meanings
rows_mean s = slice_get (things s)

-- what a row means, where the rows that it names mean these things
abbrev pub row_over : InternedRows → ℕ → Meanings → Option Thing
row_over s k f = option_and_then (thing_coded f) (slice_get s.region.rows k)

-- how many more rows surely have room, of eight words at most
abbrev pub rows_spare : InternedRows → ℕ
rows_spare s = min s.region.spare_rows (s.region.spare_words / 8)
