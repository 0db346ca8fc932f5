-- The lines of a derivation file, and the rows that they spell.
use Rattle.std.specs.Prelude.{ℕ, ◌+◌, List, [], ◌∷◌, ◌==◌, if◌then◌else◌}
use Rattle.std.specs.List.{onto_first}
use Rattle.deriv_file.specs.declared.row.Row.{Row}
use Rattle.deriv_file.specs.Spelling.{Spells, version_after}

-- The lines of a file. Each ends with its newline, but for the last, which may lack it.
abbrev pub lines : List ℕ → List (List ℕ)
lines [] = []
lines (x ∷ xs) = if x == 10 then (x ∷ []) ∷ lines xs else onto_first x (lines xs)

-- the lines from row `at` on, where the rules have that version, spell these rows
abbrev pub SpellRows : ℕ → ℕ → List (List ℕ) → List Row → Type 0
SpellRows version at [] [] = Unit {0}
SpellRows version at [] (row ∷ rows) = ⊥
SpellRows version at (line ∷ lines) [] = ⊥
SpellRows version at (line ∷ lines) (row ∷ rows) =
    Spells version at line row × SpellRows (version_after version row) (at + 1) lines rows

-- the version of the rules after these rows
abbrev pub version_after_all : ℕ → List Row → ℕ
version_after_all version [] = version
version_after_all version (row ∷ rows) = version_after_all (version_after version row) rows
