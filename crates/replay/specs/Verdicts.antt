-- What a verdict says of a file.
use Rattle.std.specs.Prelude.{◌≡◌, ℕ, List, length}
use Rattle.trees.specs.Judgements.{Judgement}
use Rattle.derivation.specs.Right.{AllRight, FirstBad, Derives}
use Rattle.replay.specs.declared.judging.Verdict.{Verdict}
use Rattle.replay.specs.declared.judging.Verdict.TheVariants.{Yes, No}

-- every row is right, with the number of rows and of roots; or the first that is not
abbrev pub VerdictIs : List ℕ → Verdict → Type 0
VerdictIs bytes (Yes rows roots) =
    AllRight bytes × (Js : List Judgement) × Derives bytes rows Js × (roots ≡ length Js)
VerdictIs bytes (No row) = FirstBad bytes row
