-- The first of some rows, and of a file.
use Rattle.std.proofs.Common.{◌≡◌, ℕ, ◌+◌, ◌-◌, ◌<◌, ◌≤◌, List, [], ◌∷◌, ◌++◌, length, take, drop, refl, sym, ◌∙◌, ap, subst, arith}
use Rattle.std.proofs.lemmas.List.{take-take, take-append-drop}
use Rattle.std.proofs.Math.Seq.{take-length}
use Rattle.trees.specs.Judgements.{Judgement}
use Rattle.deriv_file.specs.declared.row.Row.{Row}
use Rattle.deriv_file.specs.Spelling.{newest}
use Rattle.deriv_file.specs.Lines.{lines, SpellRows}
use Rattle.deriv_file.proofs.RowsLaws.{spell_length, spell_take}
use Rattle.derivation.specs.Meanings.{Meaning}
use Rattle.derivation.specs.Right.{RightRows, Begins, Right, AllRight, Derives, roots_of}

-- right rows in two parts
pub rows_parts : (before : List Meaning) (rows more : List Row) (all : List Meaning) → RightRows before (rows ++ more) all → (some : List Meaning) × RightRows before rows some × RightRows some more all
rows_parts before [] more all right = (before, refl, right)
rows_parts before (row ∷ rows) more all right =
    let parts = rows_parts (before ++ right.0 ∷ []) rows more all right.2 in
    (parts.0, (right.0, right.1, parts.1), parts.2)

pub rows_whole : (before : List Meaning) (rows more : List Row) (some all : List Meaning) → RightRows before rows some → RightRows some more all → RightRows before (rows ++ more) all
rows_whole before [] more some all right next = subst (λ ms. RightRows ms more all) right next
rows_whole before (row ∷ rows) more some all right next =
    (right.0, right.1, rows_whole (before ++ right.0 ∷ []) rows more some all right.2 next)

-- the first rows of a file that begins so
pub begins_take : (bytes : List ℕ) (n j : ℕ) (rows : List Row) (all : List Meaning) → Begins bytes n rows all → j ≤ n → (some : List Row) × (means : List Meaning) × Begins bytes j some means
begins_take bytes n j rows all begins low =
    let right : RightRows [] (take j rows ++ drop j rows) all = subst (λ rs. RightRows [] rs all) (sym (take-append-drop j rows)) begins.right in
    let parts = rows_parts [] (take j rows) (drop j rows) all right in
    let spelt = spell_take j newest 0 (take n (lines bytes)) rows begins.spelt in (
      take j rows,
      parts.0,
      record {
        within = omega (arith, begins.within);
        spelt = subst (λ ls. SpellRows newest 0 ls (take j rows)) (take-take j n (lines bytes) low) spelt;
        right = parts.1;
      },
    )

pub right-earlier : (bytes : List ℕ) (j k : ℕ) → Right bytes k → j ≤ k → Right bytes j
right-earlier bytes j k right low = begins_take bytes (k + 1) (j + 1) right.0 right.1 right.2 (omega arith)

-- files that derive something

pub derives_length : (bytes : List ℕ) (n : ℕ) (Js : List Judgement) → Derives bytes n Js → n ≡ length (lines bytes)
derives_length bytes n Js derives =
    let whole : length (take (length (lines bytes)) (lines bytes)) ≡ length derives.spelt = spell_length newest 0 _ derives.spelt derives.begins.spelt in
    derives.rows_are ∙ sym whole ∙ ap length (take-length (lines bytes))

pub all_right-from_derives : (bytes : List ℕ) (n : ℕ) (Js : List Judgement) → Derives bytes n Js → 0 < n → AllRight bytes
all_right-from_derives bytes n Js derives some =
    let count = derives_length bytes n Js derives in
    (omega arith, λ k below. begins_take bytes (length (lines bytes)) (k + 1) derives.spelt derives.all derives.begins (omega arith))

pub all_right-derives : (bytes : List ℕ) → AllRight bytes → (n : ℕ) × (Js : List Judgement) × Derives bytes n Js × (0 < n)
all_right-derives bytes right =
    let n : ℕ = length (lines bytes) in
    let some : 0 < n = right.0 in
    let last = right.1 (n - 1) (omega arith) in
    let same : n - 1 + 1 ≡ n = omega arith in
    let begins : Begins bytes n last.0 last.1 = subst (λ k. Begins bytes k last.0 last.1) same last.2 in
    let derives : Derives bytes (length last.0) (roots_of last.1 last.0) = record { spelt = last.0; all = last.1; begins = begins; rows_are = refl; roots_are = refl } in
    (length last.0, roots_of last.1 last.0, derives, omega (arith, derives_length bytes _ _ derives))
