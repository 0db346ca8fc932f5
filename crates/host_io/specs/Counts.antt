-- Counts of what went wrong. Each is a u64 that goes up by one at each of its events, and stands
-- still once it is at its end.
use Rattle.std.specs.Prelude.{ℕ, ◌+◌, ◌-◌, ◌^◌, ◌<◌, nat_lt, if◌then◌else◌}
use Rattle.host_io.specs.declared.files.Fetched.{Fetched}
use Rattle.host_io.specs.declared.files.Fetched.TheVariants as fetched
use Rattle.host_io.specs.declared.files.Stored.{Stored}
use Rattle.host_io.specs.declared.files.Stored.TheVariants as stored
use Rattle.host_io.specs.declared.streams.Got.{Got}
use Rattle.host_io.specs.declared.streams.Got.TheVariants as got
use Rattle.host_io.specs.declared.streams.Took.{Took}
use Rattle.host_io.specs.declared.streams.Took.TheVariants as took

-- A count rose in a call: it is greater after the call than before, unless it stands at its end.
abbrev pub Rose : ℕ → ℕ → Type 0
Rose before after = after < 2 ^ 64 - 1 → before < after

-- a count after one more event
abbrev pub one_more : ℕ → ℕ
one_more count = if nat_lt count (2 ^ 64 - 1) then count + 1 else count

-- the counts of files: fetches that were answered by Missing, fetches and stores that failed
pub record FileCounts : Type 0 where
  pub misses : ℕ
  pub fetch_faults : ℕ
  pub store_faults : ℕ

-- nothing went wrong yet
abbrev pub no_counts : FileCounts
no_counts = record { misses = 0; fetch_faults = 0; store_faults = 0 }

-- the counts after a fetch with this answer
abbrev pub counted_fetch : Fetched → FileCounts → FileCounts
counted_fetch fetched.Found counts = counts
counted_fetch fetched.Missing counts = record counts { misses = one_more counts.misses }
counted_fetch fetched.Failed counts = record counts { fetch_faults = one_more counts.fetch_faults }
counted_fetch fetched.Longer counts = counts
counted_fetch fetched.Memory counts = counts

-- the counts after a store with this answer
abbrev pub counted_store : Stored → FileCounts → FileCounts
counted_store stored.Done counts = counts
counted_store stored.Failed counts = record counts { store_faults = one_more counts.store_faults }
counted_store stored.Memory counts = counts

-- the faults after a read with this answer
abbrev pub counted_read : Got → ℕ → ℕ
counted_read (got.Bytes n) faults = faults
counted_read got.Failed faults = one_more faults

-- the faults after a write with this answer
abbrev pub counted_write : Took → ℕ → ℕ
counted_write (took.Bytes n) faults = faults
counted_write took.Failed faults = one_more faults
