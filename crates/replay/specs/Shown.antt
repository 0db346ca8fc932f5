-- What contracts see of the rows of a file that was judged.
use Rattle.std.specs.Prelude.{◌≡◌, ℕ, List, length}
use Rattle.trees.specs.Judgements.{Judgement}
use Rattle.trees.specs.Things.{Meanings}
use Rattle.rows.specs.Shown.{store_means}
use Rattle.derivation.specs.Right.{AllRight, FirstBad, Derives}
use Rattle.replay.specs.declared.judged_rows.JudgedRows.{JudgedRows}
use Rattle.replay.specs.declared.judging.Judged.{Judged}
use Rattle.replay.specs.declared.judging.Verdict.{Verdict}
use Rattle.replay.specs.declared.judging.Verdict.TheVariants.{Yes, No}
use Rattle.replay.specs.Meant.{meant_by, conclusions}

-- the tree, the substitution or the context that each number means
abbrev pub rows_mean : JudgedRows → Meanings
rows_mean rows = store_means rows.judge.store

-- the judgements of the roots of the file, in order
abbrev pub root_judgements : JudgedRows → List Judgement
root_judgements rows = conclusions (meant_by rows.judge) rows.roots.items

-- a verdict with its rows: where every row is right, the roots of the file are theirs
abbrev pub JudgedIs : List ℕ → Verdict → JudgedRows → Type 0
JudgedIs bytes (Yes rows roots) found =
    AllRight bytes × Derives bytes rows (root_judgements found) ×
    (roots ≡ length (root_judgements found))
JudgedIs bytes (No row) found = FirstBad bytes row

-- where every row is right, the roots of the file are the judgements of these roots
abbrev pub RootsAre : List ℕ → Judged → Type 0
RootsAre bytes judged =
    (rows roots : ℕ) → judged.verdict ≡ Yes rows roots →
    Derives bytes rows (root_judgements judged.rows)
