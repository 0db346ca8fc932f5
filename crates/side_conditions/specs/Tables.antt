-- What subtrees were read as.
use Rattle.std.specs.Prelude.{◌≡◌, ◌⊎◌, Option, Some, IsSome}
use Rattle.side_conditions.specs.declared.subtree.Subtree.{Subtree}
use Rattle.side_conditions.specs.declared.reading.Reading.{Reading}

-- the readings of subtrees: some are no formula and no face
abbrev pub Table : Type 0
Table = Subtree → Option (Option Reading)

-- one more reading
pub record IsAdded (s : Subtree) (found : Option Reading) (old new : Table) : Type 0 where
  pub here : new s ≡ Some found
  pub each : (t : Subtree) (other : Option Reading) → new t ≡ Some other
      → (old t ≡ Some other) ⊎ ((t ≡ s) × (other ≡ found))
  pub keeps : (t : Subtree) → IsSome (old t) → IsSome (new t)
