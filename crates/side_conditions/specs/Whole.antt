-- Subtrees that are the trees of whole rows. What these were read as is remembered from one
-- question to the next.
use Rattle.std.specs.Prelude.{◌<◌, ℕ, zero, Option, Some, None, IsSome}
use Rattle.indexmap.specs.IndexMap.{IndexMap, get}
use Rattle.rows.specs.declared.views.TermId.{TermId}
use Rattle.rows.specs.contracts.views.TermIdPartialEq.TheImpl.{eq-value}
use Rattle.closures.specs.declared.environments.Environment.{Environment}
use Rattle.closures.specs.declared.environments.Environment.TheVariants as env
use Rattle.side_conditions.specs.declared.subtree.Subtree.{Subtree}
use Rattle.side_conditions.specs.declared.reading.Reading.{Reading}

-- a row at no depth, where nothing waits before it
abbrev pub row_alone : TermId → Environment → ℕ → Option TermId
row_alone row env.Empty zero = Some row
row_alone _ _ _ = None

-- the row whose tree it is as it stands, if it is that of one
abbrev pub whole_row : Subtree → Option TermId
whole_row s = row_alone s.closure.row s.closure.environment s.depth

-- what a row was read as
abbrev pub row_at : {S : Type 0} → IndexMap TermId (Option Reading) S → TermId
    → Option (Option Reading)
row_at rows row = get eq-value.it rows row

-- only rows before the mark
abbrev pub AreBelow : {S : Type 0} → ℕ → IndexMap TermId (Option Reading) S → Type 0
AreBelow mark rows = (row : TermId) → IsSome (row_at rows row) → row.0 < mark
