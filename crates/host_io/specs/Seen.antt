-- What is seen of files, of a source and of a sink.
use Rattle.std.specs.Prelude.{ℕ, List, Option}
use Rattle.host_io.specs.Counts.{FileCounts}
use Rattle.host_io.specs.Files.{Held}

-- what files hold, where that is told, and the counts of what went wrong
pub record SeenFiles : Type 0 where
  pub held : Option Held
  pub counts : FileCounts

-- the bytes to come, where they are told, and how many reads failed
pub record SeenSource : Type 0 where
  pub left : Option (List ℕ)
  pub faults : ℕ

-- the bytes that were taken, where they are told, and how many writes failed
pub record SeenSink : Type 0 where
  pub taken : Option (List ℕ)
  pub faults : ℕ

-- how files, sources and sinks of some types are seen
abbrev pub seen_files : {F : Type 0} → (F → Option Held) → (F → FileCounts) → F → SeenFiles
seen_files held counts files = record { held = held files; counts = counts files }

abbrev pub seen_source : {I : Type 0} → (I → Option (List ℕ)) → (I → ℕ) → I → SeenSource
seen_source left faults source = record { left = left source; faults = faults source }

abbrev pub seen_sink : {O : Type 0} → (O → Option (List ℕ)) → (O → ℕ) → O → SeenSink
seen_sink taken faults sink = record { taken = taken sink; faults = faults sink }
