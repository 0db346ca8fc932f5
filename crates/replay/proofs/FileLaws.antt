-- Files whose first rows are right.
use Rattle.std.proofs.Common.{◌≡◌, ℕ, ◌+◌, ◌<◌, ◌≤◌, List, [], ◌∷◌, ◌++◌, length, take, refl, sym, ◌∙◌, ap, subst, arith, append_assoc, length-append}
use Rattle.std.specs.Option.{option_to_list}
use Rattle.std.specs.Io.BufRead.{drop_through}
use Rattle.std.proofs.lemmas.List.{take-append-le, append-nil}
use Rattle.std.proofs.Math.Seq.{take-append-add, take-length}
use Rattle.deriv_file.specs.declared.row.Row.{Row}
use Rattle.deriv_file.specs.declared.row.Row.TheVariants.{Header, Var, Make, Instance, Shift}
use Rattle.deriv_file.specs.declared.row.Row.TheVariants.{Push, CtxNil, CtxVar, CtxName}
use Rattle.deriv_file.specs.declared.row.Row.TheVariants.{CtxFace, Node, Root}
use Rattle.deriv_file.specs.Spelling.{newest, MayStand, Spells}
use Rattle.deriv_file.specs.Lines.{lines, SpellRows}
use Rattle.deriv_file.specs.Reading.{Reading}
use Rattle.deriv_file.specs.Reader.{start, past, line_of, NextIs}
use Rattle.deriv_file.specs.declared.reader.Next.TheVariants as next
use Rattle.deriv_file.proofs.LineLaws.{length-drop_through-lt}
use Rattle.deriv_file.proofs.ReadLaws.{HasRead, read_none, read_row, read_all, read_next, cut_line}
use Rattle.deriv_file.proofs.RowsLaws.{spell_length}
use Rattle.deriv_file.proofs.SpellingLaws.{spells_one}
use Rattle.replay.specs.declared.judging.Verdict.{Verdict}
use Rattle.replay.specs.declared.judging.Verdict.TheVariants.{Yes, No}
use Rattle.replay.specs.Verdicts.{VerdictIs}
use Rattle.replay.specs.Meant.{meant_by, conclusions, root_node, root_nodes}
use Rattle.replay.specs.Shown.{root_judgements, JudgedIs}
use Rattle.replay.specs.declared.judged_rows.JudgedRows.{JudgedRows}
use Rattle.derivation.specs.Meanings.{Meaning, conclusion_at}
use Rattle.derivation.proofs.UniqueLaws.{rows_one}
use Rattle.derivation.proofs.PrefixLaws.{rows_parts, rows_whole, begins_take}
use Rattle.derivation.specs.Right.{RightRow, RightRows, Begins, AllRight, FirstBad, Derives, roots_of}

right_push : (before : List Meaning) (rows : List Row) (all : List Meaning) (row : Row) (m : Meaning) → RightRows before rows all → RightRow all row m → RightRows before (rows ++ row ∷ []) (all ++ m ∷ [])
right_push before rows all row m right next = rows_whole before rows (row ∷ []) all (all ++ m ∷ []) right (m, next, refl)

-- the last of some rows that are right
right_last : (before : List Meaning) (rows : List Row) (row : Row) (all : List Meaning) → RightRows before (rows ++ row ∷ []) all → (first : List Meaning) × (m : Meaning) × RightRows before rows first × RightRow first row m
right_last before rows row all right =
    let parts = rows_parts before rows (row ∷ []) all right in
    (parts.0, parts.2.0, parts.1, parts.2.1)

right_length : (before : List Meaning) (rows : List Row) (all : List Meaning) → RightRows before rows all → length all ≡ length before + length rows
right_length before [] all right = rw right (omega arith)
right_length before (row ∷ rows) all right = omega (arith, right_length (before ++ right.0 ∷ []) rows all right.2, length-append before (right.0 ∷ []))

-- the roots of rows are the conclusions of the nodes that they name
roots_named : (all : List Meaning) (rows : List Row) → conclusions all (root_nodes rows) ≡ roots_of all rows
roots_named all [] = refl
roots_named all (Root node ∷ rows) = ap (λ Js. option_to_list (conclusion_at all node) ++ Js) (roots_named all rows)
roots_named all (Header version ∷ rows) = roots_named all rows
roots_named all (Var index ∷ rows) = roots_named all rows
roots_named all (Make op kids ∷ rows) = roots_named all rows
roots_named all (Instance term sub ∷ rows) = roots_named all rows
roots_named all (Shift by ∷ rows) = roots_named all rows
roots_named all (Push sub term ∷ rows) = roots_named all rows
roots_named all (CtxNil ∷ rows) = roots_named all rows
roots_named all (CtxVar ctx ty ∷ rows) = roots_named all rows
roots_named all (CtxName ctx ∷ rows) = roots_named all rows
roots_named all (CtxFace ctx face ∷ rows) = roots_named all rows
roots_named all (Node rule parts premises ∷ rows) = roots_named all rows

nodes_push : (rows : List Row) (row : Row) → root_nodes (rows ++ row ∷ []) ≡ root_nodes rows ++ root_nodes (row ∷ [])
nodes_push [] row = refl
nodes_push (first ∷ rows) row = ap (λ ks. root_node first ++ ks) (nodes_push rows row) ∙ sym (append_assoc (root_node first) (root_nodes rows) (root_nodes (row ∷ [])))

-- The lines before a reader spell rows that are right and mean that, and these are their roots.
pub record Progress (bytes : List ℕ) (reading : Reading) (all : List Meaning) (roots : List ℕ) : Type 0 where
  pub rows : List Row
  pub read : HasRead bytes reading rows
  pub right : RightRows [] rows all
  pub roots_are : roots ≡ root_nodes rows

pub at_start : (bytes : List ℕ) (reading : Reading) (all : List Meaning) → reading ≡ start bytes → all ≡ [] → (roots : List ℕ) → roots ≡ [] → Progress bytes reading all roots
at_start bytes reading all e none roots no_roots = rw (e, none, no_roots) (record { rows = []; read = read_none bytes; right = refl; roots_are = refl })

pub count_is : (bytes : List ℕ) (reading : Reading) (all : List Meaning) (roots : List ℕ) → Progress bytes reading all roots → reading.at ≡ length all
count_is bytes reading all roots p =
    let n : length all ≡ length p.rows = omega (arith, right_length [] p.rows all p.right) in
    p.read.at_is ∙ sym n

-- one more right row
pub progress : (bytes : List ℕ) (reading : Reading) (all : List Meaning) (roots : List ℕ) (row : Row) (m : Meaning) → Progress bytes reading all roots → 0 < length reading.rest → Spells reading.version reading.at (line_of reading) row → RightRow all row m → Progress bytes (past reading row) (all ++ m ∷ []) (roots ++ root_nodes (row ∷ []))
progress bytes reading all roots row m p some spells right = record {
  rows = p.rows ++ row ∷ [];
  read = read_row bytes reading p.rows row p.read some spells;
  right = right_push [] p.rows all row m p.right right;
  roots_are = ap (λ ks. ks ++ root_nodes (row ∷ [])) p.roots_are ∙ sym (nodes_push p.rows row);
}

-- the rows so far are right
before_is_right : (bytes : List ℕ) (done more : List (List ℕ)) (rows : List Row) (all : List Meaning) → lines bytes ≡ done ++ more → SpellRows newest 0 done rows → RightRows [] rows all → (n : ℕ) → n ≤ length done → (some : List Row) × (means : List Meaning) × Begins bytes n some means
before_is_right bytes done more rows all cut spelt right n low =
    let whole : take (length done) (lines bytes) ≡ done = ap (take (length done)) cut ∙ take-append-le (length done) done more (omega arith) ∙ take-length done in
    begins_take bytes (length done) n rows all
    (record {
      within = rw cut (omega (arith, length-append done more));
      spelt = subst (λ ls. SpellRows newest 0 ls rows) (sym whole) spelt;
      right = right;
    })
    low

-- the next line spells no right row
pub bad_next : (bytes : List ℕ) (reading : Reading) (all : List Meaning) (roots : List ℕ) → Progress bytes reading all roots → 0 < length reading.rest → ((row : Row) (m : Meaning) → Spells reading.version reading.at (line_of reading) row → RightRow all row m → ⊥) → FirstBad bytes reading.at
bad_next bytes reading all roots p some none =
    let line = line_of reading in
    let done = p.read.done in
    let more = lines (drop_through 10 reading.rest) in
    let cut = cut_line bytes done reading p.read.cut some in
    let same : length done ≡ reading.at = spell_length newest 0 done p.rows p.read.spell ∙ sym p.read.at_is in
    let here : take (reading.at + 1) (lines bytes) ≡ done ++ line ∷ [] = ap (λ n. take (n + 1) (lines bytes)) (sym same) ∙ ap (take (length done + 1)) cut ∙ take-append-add done (line ∷ more) 1 in
    record {
      within = rw cut (omega (arith, length-append done (line ∷ more)));
      before = λ j below. before_is_right bytes done (line ∷ more) p.rows all cut p.read.spell p.right (j + 1) (omega arith);
      bad = λ right.
          let next = read_next bytes reading p.rows right.0 p.read (subst (λ ls. SpellRows newest 0 ls right.0) here right.2.spelt) in
          let last = right_last [] p.rows next.0 right.1 (subst (λ rs. RightRows [] rs right.1) next.1 right.2.right) in
          let first : last.0 ≡ all = rows_one [] p.rows last.0 all last.2 p.right in
          none next.0 last.1 next.2 (subst (λ ms. RightRow ms next.0 last.1) first last.3);
    }

pub bad_spelling : (bytes : List ℕ) (reading : Reading) (all : List Meaning) (roots : List ℕ) → Progress bytes reading all roots → 0 < length reading.rest → ((row : Row) → Spells reading.version reading.at (line_of reading) row → ⊥) → FirstBad bytes reading.at
bad_spelling bytes reading all roots p some none = bad_next bytes reading all roots p some (λ row m spells right. none row spells)

pub bad_row : (bytes : List ℕ) (reading : Reading) (all : List Meaning) (roots : List ℕ) (row : Row) → Progress bytes reading all roots → 0 < length reading.rest → Spells reading.version reading.at (line_of reading) row → ((m : Meaning) → RightRow all row m → ⊥) → FirstBad bytes reading.at
bad_row bytes reading all roots row p some spells none = bad_next bytes reading all roots p some (λ other m also right.
    let same : other ≡ row = spells_one reading.version reading.at (line_of reading) other row also spells in
    none m (subst (λ r. RightRow all r m) same right))

-- no byte is left

pub nothing_there : (bytes : List ℕ) (reading : Reading) (all : List Meaning) (roots : List ℕ) → Progress bytes reading all roots → reading.rest ≡ [] → length all ≡ 0 → FirstBad bytes 0
nothing_there bytes reading all roots p none empty =
    let n = count_is bytes reading all roots p in
    let whole = spell_length newest 0 (lines bytes) p.rows (read_all bytes reading p.rows p.read none) in
    let count : length (lines bytes) ≡ 0 = whole ∙ sym p.read.at_is ∙ n ∙ empty in
    record { within = omega arith; before = λ j below. absurd (omega arith); bad = λ right. absurd (omega (arith, count, right.2.within)) }

pub all_done : (bytes : List ℕ) (reading : Reading) (all : List Meaning) (roots : List ℕ) → Progress bytes reading all roots → reading.rest ≡ [] → 0 < length all → AllRight bytes × Derives bytes (length all) (conclusions all roots)
all_done bytes reading all roots p none some =
    let spelt = read_all bytes reading p.rows p.read none in
    let count : length (lines bytes) ≡ length p.rows = spell_length newest 0 (lines bytes) p.rows spelt in
    let n : length all ≡ length p.rows = omega (arith, right_length [] p.rows all p.right) in (
      (omega arith, λ k below. before_is_right bytes (lines bytes) [] p.rows all (sym (append-nil (lines bytes))) spelt p.right (k + 1) (omega arith)),
      record {
        spelt = p.rows;
        all = all;
        begins = record { within = omega arith; spelt = subst (λ ls. SpellRows newest 0 ls p.rows) (sym (take-length (lines bytes))) spelt; right = p.right };
        rows_are = n;
        roots_are = ap (conclusions all) p.roots_are ∙ roots_named all p.rows;
      },
    )

-- what the judge does

pub next_stands : (bytes : List ℕ) (old new : Reading) (all : List Meaning) (roots : List ℕ) (row : Row) → Progress bytes old all roots → NextIs old new (next.Row row) → (version : ℕ) × MayStand version (length all) row
next_stands bytes old new all roots row p is =
    let n = count_is bytes old all roots p in
    (old.version, subst (λ k. MayStand old.version k row) n is.1.1)

pub next_right : (bytes : List ℕ) (old new : Reading) (all more : List Meaning) (roots found : List ℕ) (row : Row) → Progress bytes old all roots → NextIs old new (next.Row row) → ((m : Meaning) × RightRow all row m × (more ≡ all ++ m ∷ [])) → found ≡ roots ++ root_nodes (row ∷ []) → Progress bytes new more found
next_right bytes old new all more roots found row p is right named =
    rw (is.2, right.2, named) (progress bytes old all roots row right.0 p is.0 is.1 right.1)

pub next_shorter : (old new : Reading) (row : Row) → NextIs old new (next.Row row) → length new.rest < length old.rest
next_shorter old new row is = rw is.2 (length-drop_through-lt old.rest is.0)

pub next_wrong : (bytes : List ℕ) (old new : Reading) (all : List Meaning) (roots : List ℕ) (len : ℕ) (row : Row) → Progress bytes old all roots → NextIs old new (next.Row row) → (more : List Meaning) → (more ≡ all) × ((m : Meaning) → RightRow all row m → ⊥) → len ≡ length more → FirstBad bytes len
next_wrong bytes old new all roots len row p is more wrong n =
    subst (FirstBad bytes) (count_is bytes old all roots p ∙ ap length (sym wrong.0) ∙ sym n) (bad_row bytes old all roots row p is.0 is.1 wrong.1)

pub next_misspelt : (bytes : List ℕ) (old new : Reading) (all : List Meaning) (roots : List ℕ) (k : ℕ) → Progress bytes old all roots → NextIs old new (next.BadSpelling k) → FirstBad bytes k
next_misspelt bytes old new all roots k p is = rw is.1 (bad_spelling bytes old all roots p is.0 is.2)

-- what is found where no byte is left

pub end_empty : (bytes : List ℕ) (old new : Reading) (rows : JudgedRows) (len : ℕ) → Progress bytes old (meant_by rows.judge) rows.roots.items → NextIs old new next.End → len ≡ length (meant_by rows.judge) → len ≡ 0 → FirstBad bytes 0
end_empty bytes old new rows len p is n empty = nothing_there bytes old (meant_by rows.judge) rows.roots.items p is.0 (sym n ∙ empty)

pub end_some : (bytes : List ℕ) (old new : Reading) (rows : JudgedRows) (len count : ℕ) → Progress bytes old (meant_by rows.judge) rows.roots.items → NextIs old new next.End → len ≡ length (meant_by rows.judge) → 0 < len → count ≡ length (root_judgements rows) → JudgedIs bytes (Yes len count) rows
end_some bytes old new rows len count p is n some c =
    let done = all_done bytes old (meant_by rows.judge) rows.roots.items p is.0 (omega arith) in
    (done.0, subst (λ k. Derives bytes k (root_judgements rows)) (sym n) done.1, c)

-- a verdict with its roots is a verdict
pub verdict_of : (bytes : List ℕ) (verdict : Verdict) (rows : JudgedRows) → JudgedIs bytes verdict rows → VerdictIs bytes verdict
verdict_of bytes (Yes n k) rows is = (is.0, root_judgements rows, is.1, is.2)
verdict_of bytes (No row) rows is = is

pub roots_of_yes : (bytes : List ℕ) (verdict : Verdict) (rows : JudgedRows) → JudgedIs bytes verdict rows → (n k : ℕ) → verdict ≡ Yes n k → Derives bytes n (root_judgements rows)
roots_of_yes bytes verdict rows is n k e = (rw e at is).1
