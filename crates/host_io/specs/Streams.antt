-- What a read gives of the bytes to come, and what a write adds to the bytes that were taken.
use Rattle.std.specs.Prelude.{ℕ, ◌≤◌, List, length, take, Option}
use Rattle.std.specs.Io.KnownBytes.{Appends, Keeps, Consumes}
use Rattle.host_io.specs.declared.streams.Got.{Got}
use Rattle.host_io.specs.declared.streams.Got.TheVariants as got
use Rattle.host_io.specs.declared.streams.Took.{Took}
use Rattle.host_io.specs.declared.streams.Took.TheVariants as took

-- The first n bytes of the buffer were read. They were the next to come, and what follows is left.
abbrev pub ReadGives : Option (List ℕ) → Option (List ℕ) → List ℕ → Got → Type 0
ReadGives old new buf (got.Bytes n) = (n ≤ length buf) × Consumes old new (take n buf)
ReadGives old new buf got.Failed = Keeps old new

-- The first n bytes of the piece were taken, after those that were taken before.
abbrev pub WriteTakes : Option (List ℕ) → Option (List ℕ) → List ℕ → Took → Type 0
WriteTakes old new piece (took.Bytes n) = (n ≤ length piece) × Appends old new (take n piece)
WriteTakes old new piece took.Failed = Keeps old new
