-- Lines that spell rows.
use Rattle.std.proofs.Common.{◌≡◌, ℕ, zero, suc, ◌+◌, ◌<◌, List, [], ◌∷◌, ◌++◌, length, length-append, map, take, refl, sym, ◌∙◌, ap, subst, arith}
use Rattle.std.specs.List.{flat_map, join_with_byte}
use Rattle.std.specs.Io.BufRead.{drop_through}
use Rattle.deriv_file.specs.declared.row.Row.{Row}
use Rattle.deriv_file.specs.Spelling.{words_of, spelled, Spells, version_after}
use Rattle.deriv_file.specs.Lines.{lines, SpellRows, version_after_all}
use Rattle.deriv_file.proofs.LineLaws.{lines_step}
use Rattle.deriv_file.proofs.SpellingLaws.{spells_one, row_line}

-- as many rows as lines
pub spell_length : (version at : ℕ) (lines : List (List ℕ)) (rows : List Row) → SpellRows version at lines rows → length lines ≡ length rows
spell_length version at [] [] spell = refl
spell_length version at [] (row ∷ rows) spell = absurd spell
spell_length version at (line ∷ lines) [] spell = absurd spell
spell_length version at (line ∷ lines) (row ∷ rows) spell =
    let more = spell_length (version_after version row) (at + 1) lines rows spell.1 in
    omega arith

-- lines spell one list of rows at most
pub spell_rows_one : (version at : ℕ) (lines : List (List ℕ)) (rows others : List Row) → SpellRows version at lines rows → SpellRows version at lines others → rows ≡ others
spell_rows_one version at [] [] [] spell also = refl
spell_rows_one version at [] [] (other ∷ others) spell also = absurd also
spell_rows_one version at [] (row ∷ rows) others spell also = absurd spell
spell_rows_one version at (line ∷ lines) [] others spell also = absurd spell
spell_rows_one version at (line ∷ lines) (row ∷ rows) [] spell also = absurd also
spell_rows_one version at (line ∷ lines) (row ∷ rows) (other ∷ others) spell also =
    let first : row ≡ other = spells_one version at line row other spell.0 also.0 in
    let there = subst (λ r. SpellRows (version_after version r) (at + 1) lines others) (sym first) also.1 in
    let more : rows ≡ others = spell_rows_one (version_after version row) (at + 1) lines rows others spell.1 there in
    cc

-- the first lines spell the first rows
pub spell_take : (n version at : ℕ) (lines : List (List ℕ)) (rows : List Row) → SpellRows version at lines rows → SpellRows version at (take n lines) (take n rows)
spell_take zero version at lines rows spell = tt
spell_take (suc n) version at [] [] spell = tt
spell_take (suc n) version at [] (row ∷ rows) spell = absurd spell
spell_take (suc n) version at (line ∷ lines) [] spell = absurd spell
spell_take (suc n) version at (line ∷ lines) (row ∷ rows) spell =
    (spell.0, spell_take n (version_after version row) (at + 1) lines rows spell.1)

-- lines that spell rows, and after them lines that spell more
pub spell_append : (version at : ℕ) (done : List (List ℕ)) (rows : List Row) (lines : List (List ℕ)) (more : List Row) → SpellRows version at done rows → SpellRows (version_after_all version rows) (at + length rows) lines more → SpellRows version at (done ++ lines) (rows ++ more)
spell_append version at [] [] lines more spell next = subst (λ k. SpellRows version k lines more) (omega arith) next
spell_append version at [] (row ∷ rows) lines more spell next = absurd spell
spell_append version at (line ∷ done) [] lines more spell next = absurd spell
spell_append version at (line ∷ done) (row ∷ rows) lines more spell next = (
  spell.0,
  spell_append (version_after version row) (at + 1) done rows lines more spell.1
      (subst (λ k. SpellRows (version_after_all (version_after version row) rows) k lines more) (omega arith) next),
)

-- and one line more
pub spell_push : (version at : ℕ) (done : List (List ℕ)) (rows : List Row) (line : List ℕ) (row : Row) → SpellRows version at done rows → Spells (version_after_all version rows) (at + length rows) line row → SpellRows version at (done ++ line ∷ []) (rows ++ row ∷ [])
spell_push version at done rows line row spell next = spell_append version at done rows (line ∷ []) (row ∷ []) spell (next, tt)

-- the rows of lines and of more lines after them
pub record Parts (version at : ℕ) (done lines : List (List ℕ)) (rows : List Row) : Type 0 where
  pub prefix : List Row
  pub suffix : List Row
  pub whole : rows ≡ prefix ++ suffix
  pub first : SpellRows version at done prefix
  pub next : SpellRows (version_after_all version prefix) (at + length prefix) lines suffix

pub spell_parts : (version at : ℕ) (done lines : List (List ℕ)) (rows : List Row) → SpellRows version at (done ++ lines) rows → Parts version at done lines rows
spell_parts version at [] lines rows spell = record {
  prefix = [];
  suffix = rows;
  whole = refl;
  first = tt;
  next = subst (λ k. SpellRows version k lines rows) (omega arith) spell;
}
spell_parts version at (line ∷ done) lines [] spell = absurd spell
spell_parts version at (line ∷ done) lines (row ∷ rows) spell =
    let parts = spell_parts (version_after version row) (at + 1) done lines rows spell.1 in
    record {
      prefix = row ∷ parts.prefix;
      suffix = parts.suffix;
      whole = ap (λ rs. row ∷ rs) parts.whole;
      first = (spell.0, parts.first);
      next = subst (λ k. SpellRows (version_after_all (version_after version row) parts.prefix) k lines parts.suffix) (omega arith) parts.next;
    }

pub version_after_all-push : (version : ℕ) (rows : List Row) (row : Row) → version_after_all version (rows ++ row ∷ []) ≡ version_after (version_after_all version rows) row
version_after_all-push version [] row = refl
version_after_all-push version (r ∷ rows) row = version_after_all-push (version_after version r) rows row

pub spelled_some : (row : Row) → 0 < length (spelled row)
spelled_some row = omega (arith, length-append (join_with_byte 32 (words_of row)) (10 ∷ []))

-- the lines of rows, one after the other, are the lines of that file
pub lines_of_rows : (version at : ℕ) (rows : List Row) → SpellRows version at (map spelled rows) rows → lines (flat_map spelled rows) ≡ map spelled rows
lines_of_rows version at [] spell = refl
lines_of_rows version at (row ∷ rows) spell =
    let more = flat_map spelled rows in
    let cut = row_line version at row more spell.0.1 in
    lines_step (spelled row ++ more) (omega (arith, length-append (spelled row) more, spelled_some row))
    ∙ ap (λ l. l ∷ lines (drop_through 10 (spelled row ++ more))) cut.0
    ∙ ap (λ bytes. spelled row ∷ lines bytes) cut.1
    ∙ ap (λ ls. spelled row ∷ ls) (lines_of_rows (version_after version row) (at + 1) rows spell.1)

pub rows_read_back : (version at : ℕ) (rows : List Row) → SpellRows version at (map spelled rows) rows → SpellRows version at (lines (flat_map spelled rows)) rows
rows_read_back version at rows spell = subst (λ ls. SpellRows version at ls rows) (sym (lines_of_rows version at rows spell)) spell
