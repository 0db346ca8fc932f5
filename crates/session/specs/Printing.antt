-- What is printed.
use Rattle.std.specs.Prelude.{◌≡◌, ◌⊎◌, ℕ, List}
use Rattle.host_io.specs.Seen.{SeenSink}
use Rattle.dialogue.specs.Writes.{CutOff, WrittenWhole}
use Rattle.outcomes.specs.declared.outcome.Status.{Status}
use Rattle.outcomes.specs.declared.outcome.Status.TheVariants as status

-- A text was printed whole, with its status, or a write failed and not all of it went out.
abbrev pub Printed : List ℕ → Status → SeenSink → SeenSink → Status → Type 0
Printed text whole old new result =
    ((result ≡ whole) × WrittenWhole text old new) ⊎ ((result ≡ status.Fault) × CutOff text old new)

-- So it was, or it was out of memory before the first byte.
abbrev pub PrintedOrNot : List ℕ → Status → SeenSink → SeenSink → Status → Type 0
PrintedOrNot text whole old new result =
    ((result ≡ status.Memory) × (new ≡ old)) ⊎ Printed text whole old new result
