-- Files, a source and a sink in memory, as their callers see them.
use Rattle.std.specs.Prelude.{◌≡◌, ℕ, ◌-◌, min, List, ◌++◌, length, take}
use Rattle.std.specs.Prelude.{drop, map, Vec, String, string_bytes}
use Rattle.std.specs.BTreeMap.{BTreeMap}
use Rattle.std.specs.FinMap.{from_entries, insert}
use Rattle.std.specs.declared.alloc.Global.{Global}
use Rattle.host_io.specs.Counts.{FileCounts, one_more, counted_fetch, counted_store}
use Rattle.host_io.specs.Counts.{counted_read, counted_write}
use Rattle.host_io.specs.Files.{Held}
use Rattle.host_io.specs.declared.files.Fetched.{Fetched}
use Rattle.host_io.specs.declared.files.Stored.{Stored}
use Rattle.host_io.specs.declared.files.Stored.TheVariants as stored
use Rattle.host_io.specs.declared.streams.Got.{Got}
use Rattle.host_io.specs.declared.streams.Got.TheVariants as got
use Rattle.host_io.specs.declared.streams.Took.{Took}
use Rattle.host_io.specs.declared.streams.Took.TheVariants as took

-- Files in memory. Fetches and stores are numbered together, from 0, and `calls` is the number of
-- the next. It fails where its number is in `failing`. As a count, `calls` stands still at its
-- type's end.
pub record FilesInMemory : Type 0 where
  pub held : Held
  pub failing : List ℕ
  pub calls : ℕ
  pub counts : FileCounts

-- A source in memory, whose reads are numbered in the same way.
pub record SourceInMemory : Type 0 where
  pub left : List ℕ
  pub failing : List ℕ
  pub calls : ℕ
  pub faults : ℕ

-- A sink in memory, which takes `room` bytes in all, and whose writes are numbered in the same way.
pub record SinkInMemory : Type 0 where
  pub taken : List ℕ
  pub room : ℕ
  pub failing : List ℕ
  pub calls : ℕ
  pub faults : ℕ

-- the files after a fetch with this answer
abbrev pub after_fetch : Fetched → FilesInMemory → FilesInMemory
after_fetch answer files = record files {
  calls = one_more files.calls;
  counts = counted_fetch answer files.counts;
}

-- what is held after a store of bytes at a path
abbrev pub held_after : Stored → List ℕ → List ℕ → Held → Held
held_after stored.Done path bytes held = insert held path bytes
held_after stored.Failed path bytes held = held
held_after stored.Memory path bytes held = held

-- the files after a store with this answer
abbrev pub after_store : Stored → List ℕ → List ℕ → FilesInMemory → FilesInMemory
after_store answer path bytes files = record files {
  held = held_after answer path bytes files.held;
  calls = one_more files.calls;
  counts = counted_store answer files.counts;
}

-- what is left after a read
abbrev pub left_after : Got → List ℕ → List ℕ
left_after (got.Bytes n) left = drop n left
left_after got.Failed left = left

-- the source after a read with this answer
abbrev pub after_read : Got → SourceInMemory → SourceInMemory
after_read answer source = record source {
  left = left_after answer source.left;
  calls = one_more source.calls;
  faults = counted_read answer source.faults;
}

-- what was taken after a write of a piece
abbrev pub taken_after : Took → List ℕ → List ℕ → List ℕ
taken_after (took.Bytes n) piece taken = taken ++ take n piece
taken_after took.Failed piece taken = taken

-- the sink after a write with this answer
abbrev pub after_write : Took → List ℕ → SinkInMemory → SinkInMemory
after_write answer piece sink = record sink {
  taken = taken_after answer piece sink.taken;
  calls = one_more sink.calls;
  faults = counted_write answer sink.faults;
}

-- A read gives as much of what is left as fits in the buffer, at its start, and keeps the rest of
-- it.
abbrev pub GivesWhatFits : SourceInMemory → List ℕ → List ℕ → Got → Type 0
GivesWhatFits source old new (got.Bytes n) =
    (n ≡ min (length old) (length source.left)) × (new ≡ take n source.left ++ drop n old)
GivesWhatFits source old new got.Failed = new ≡ old

-- a write takes what fits in what is left of the room
abbrev pub TakesWhatFits : SinkInMemory → List ℕ → Took → Type 0
TakesWhatFits sink piece (took.Bytes n) = n ≡ min (length piece) (sink.room - length sink.taken)
TakesWhatFits sink piece took.Failed = Unit {0}

-- a path and its bytes
abbrev pub entry : String Global × Vec ℕ Global → List ℕ × List ℕ
entry e = (string_bytes e.0, e.1.items)

-- what a map from paths to bytes holds
abbrev pub held_in : BTreeMap (String Global) (Vec ℕ Global) → Held
held_in files = from_entries (map entry files.entries)
