-- What a reader has read: an invariant for loops over its answers.
use Rattle.std.proofs.Common.{◌≡◌, ℕ, ◌<◌, ◌+◌, List, [], ◌∷◌, ◌++◌, length, refl, sym, ◌∙◌, ap, subst, arith, append_assoc}
use Rattle.std.proofs.lemmas.List.{append-nil, length_push}
use Rattle.std.specs.Io.BufRead.{take_through, drop_through}
use Rattle.deriv_file.specs.declared.row.Row.{Row}
use Rattle.deriv_file.specs.declared.reader.Next.{Next}
use Rattle.deriv_file.specs.declared.reader.Next.TheVariants as next
use Rattle.deriv_file.specs.Spelling.{newest, spelled, MayStand, Spells, version_after}
use Rattle.deriv_file.specs.Lines.{lines, SpellRows, version_after_all}
use Rattle.deriv_file.specs.Reading.{Reading}
use Rattle.deriv_file.specs.Reader.{start, line_of, past, NextIs}
use Rattle.deriv_file.proofs.LineLaws.{lines_step}
use Rattle.deriv_file.proofs.SpellingLaws.{row_line, spells_one}
use Rattle.deriv_file.proofs.RowsLaws.{spell_push, spell_parts, spell_rows_one, version_after_all-push, spelled_some}

-- a reader of the bytes that stands after the lines of these rows
pub record HasRead (bytes : List ℕ) (reading : Reading) (rows : List Row) : Type 0 where
  pub done : List (List ℕ)
  pub cut : lines bytes ≡ done ++ lines reading.rest
  pub spell : SpellRows newest 0 done rows
  pub at_is : reading.at ≡ length rows
  pub version_is : reading.version ≡ version_after_all newest rows

pub read_none : (bytes : List ℕ) → HasRead bytes (start bytes) []
read_none bytes = record { done = []; cut = refl; spell = tt; at_is = refl; version_is = refl }

-- the line that comes, and those after it
pub cut_line : (bytes : List ℕ) (done : List (List ℕ)) (reading : Reading) → lines bytes ≡ done ++ lines reading.rest → 0 < length reading.rest → lines bytes ≡ done ++ line_of reading ∷ lines (drop_through 10 reading.rest)
cut_line bytes done reading cut some = cut ∙ ap (λ ls. done ++ ls) (lines_step reading.rest some)

-- a row more
pub read_row : (bytes : List ℕ) (reading : Reading) (rows : List Row) (row : Row) → HasRead bytes reading rows → 0 < length reading.rest → Spells reading.version reading.at (line_of reading) row → HasRead bytes (past reading row) (rows ++ row ∷ [])
read_row bytes reading rows row read some spells =
    let line = line_of reading in
    let there = subst (λ v. Spells v reading.at line row) read.version_is spells in
    record {
      done = read.done ++ line ∷ [];
      cut = cut_line bytes read.done reading read.cut some ∙ sym (append_assoc read.done (line ∷ []) (lines (drop_through 10 reading.rest)));
      spell = spell_push newest 0 read.done rows line row read.spell (subst (λ k. Spells (version_after_all newest rows) k line row) (read.at_is ∙ omega arith) there);
      at_is = ap (λ n. n + 1) read.at_is ∙ sym (length_push rows row);
      version_is = ap (λ v. version_after v row) read.version_is ∙ sym (version_after_all-push newest rows row);
    }

-- at the end the rows are those of the file
pub read_all : (bytes : List ℕ) (reading : Reading) (rows : List Row) → HasRead bytes reading rows → reading.rest ≡ [] → SpellRows newest 0 (lines bytes) rows
read_all bytes reading rows read none =
    subst (λ ls. SpellRows newest 0 ls rows) (sym (read.cut ∙ ap (λ rest. read.done ++ lines rest) none ∙ append-nil read.done)) read.spell

-- rows that the lines before the reader and the next one spell are those rows and one more
pub read_next : (bytes : List ℕ) (reading : Reading) (rows others : List Row) → (read : HasRead bytes reading rows) → SpellRows newest 0 (read.done ++ line_of reading ∷ []) others → (row : Row) × (others ≡ rows ++ row ∷ []) × Spells reading.version reading.at (line_of reading) row
read_next bytes reading rows others read spell =
    let parts = spell_parts newest 0 read.done (line_of reading ∷ []) others spell in
    let same : parts.prefix ≡ rows = spell_rows_one newest 0 read.done parts.prefix rows parts.first read.spell in
    from parts.suffix (parts.whole ∙ ap (λ rs. rs ++ parts.suffix) same) (subst (λ prefix. SpellRows (version_after_all newest prefix) (0 + length prefix) (line_of reading ∷ []) parts.suffix) same parts.next)
  where
    from : (more : List Row) → others ≡ rows ++ more → SpellRows (version_after_all newest rows) (0 + length rows) (line_of reading ∷ []) more → (row : Row) × (others ≡ rows ++ row ∷ []) × Spells reading.version reading.at (line_of reading) row
    from [] e next = absurd next
    from (row ∷ []) e next = (
      row,
      e,
      subst (λ k. Spells reading.version k (line_of reading) row) (omega (arith, read.at_is)) (subst (λ v. Spells v (0 + length rows) (line_of reading) row) (sym read.version_is) next.0),
    )
    from (row ∷ r ∷ more) e next = absurd next.1

-- what is read where a row's line comes first is that row
pub reads_back : (old new : Reading) (answer : Next) (row : Row) (more : List ℕ) → NextIs old new answer → old.rest ≡ spelled row ++ more → MayStand old.version old.at row → (answer ≡ next.Row row) × (new.rest ≡ more)
reads_back old new answer row more is first stands =
    let cut = row_line old.version old.at row more stands in
    let line : line_of old ≡ spelled row = ap (take_through 10) first ∙ cut.0 in
    let there : Spells old.version old.at (line_of old) row = (line, stands) in
    from answer is line there (ap (drop_through 10) first ∙ cut.1)
  where
    from : (answer : Next) → NextIs old new answer → line_of old ≡ spelled row → Spells old.version old.at (line_of old) row → drop_through 10 old.rest ≡ more → (answer ≡ next.Row row) × (new.rest ≡ more)
    from (next.Row other) is line there after =
        let same : other ≡ row = spells_one old.version old.at (line_of old) other row is.1 there in
        (ap next.Row same, ap (λ r. r.rest) is.2 ∙ after)
    from next.End is line there after =
        let none : line_of old ≡ [] = ap (take_through 10) is.0 in
        absurd (omega (arith, ap length (sym none ∙ line), spelled_some row))
    from (next.BadSpelling k) is line there after = absurd (is.2 row there)
