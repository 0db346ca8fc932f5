-- What is counted and stored where a command ends.
use Rattle.std.specs.Prelude.{◌≡◌}
use Rattle.host_io.specs.Counts.{FileCounts, counted_fetch, counted_store}
use Rattle.host_io.specs.declared.files.Fetched.TheVariants as fetched
use Rattle.host_io.specs.declared.files.Stored.TheVariants as stored
use Rattle.host_io.specs.Seen.{SeenFiles}
use Rattle.outcomes.specs.declared.outcome.Outcome.{Outcome}
use Rattle.outcomes.specs.declared.outcome.Outcome.TheVariants as outcome

-- the counts of files after a command that ended so: what goes wrong once is told, and ends it
abbrev pub counts_after : Outcome → FileCounts → FileCounts
counts_after (outcome.MissingFile path) counts = counted_fetch fetched.Missing counts
counts_after outcome.ReadFault counts = counted_fetch fetched.Failed counts
counts_after outcome.WriteFault counts = counted_store stored.Failed counts
counts_after result counts = counts

-- an outcome of which no count tells
abbrev pub IsUncounted : Outcome → Type 0
IsUncounted told = (counts : FileCounts) → counts_after told counts ≡ counts

abbrev pub IsCounted : SeenFiles → SeenFiles → Outcome → Type 0
IsCounted old new told = new.counts ≡ counts_after told old.counts

-- each path holds what it did, and no store was tried that failed
abbrev pub StoresNothing : SeenFiles → SeenFiles → Type 0
StoresNothing old new =
    (new.held ≡ old.held) × (new.counts.store_faults ≡ old.counts.store_faults)
