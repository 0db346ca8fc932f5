-- What a row of a derivation file means after rows with given meanings.
use Rattle.std.specs.Prelude.{ℕ, List, Option, Some, None, slice_get, option_and_then}
use Rattle.trees.specs.Judgements.{Judgement}
use Rattle.trees.specs.Things.{Thing, meanings}

-- a tree, substitution or context; the conclusion of a node; or nothing, as a header and a root do
pub data Meaning : Type 0 where
  Means : Thing → Meaning
  Concludes : Judgement → Meaning
  Nothing : Meaning

abbrev pub thing_of : Meaning → Option Thing
thing_of (Means x) = Some x
thing_of _ = None

abbrev pub conclusion_of : Meaning → Option Judgement
conclusion_of (Concludes J) = Some J
conclusion_of _ = None

-- the tree, substitution or context of row k
abbrev pub thing_at : List Meaning → ℕ → Option Thing
thing_at before k = option_and_then thing_of (slice_get before k)

-- the conclusion of row k
abbrev pub conclusion_at : List Meaning → ℕ → Option Judgement
conclusion_at before k = option_and_then conclusion_of (slice_get before k)

-- the conclusions of rows that all are nodes
abbrev pub conclusions_at : List Meaning → List ℕ → Option (List Judgement)
conclusions_at before = meanings (conclusion_at before)

-- the things that the rows are, where all are trees, substitutions or contexts
abbrev pub things_at : List Meaning → List ℕ → Option (List Thing)
things_at before = meanings (thing_at before)
