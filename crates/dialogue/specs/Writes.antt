-- What the writing of a text leaves.
use Rattle.std.specs.Prelude.{◌≡◌, ◌<◌, ◌++◌, ℕ, List, length, take, drop, Result, Ok, Err}
use Rattle.std.specs.Io.KnownBytes.{Appends, Keeps}
use Rattle.host_io.specs.Counts.{one_more}
use Rattle.host_io.specs.Seen.{SeenSink}
use Rattle.dialogue.specs.declared.writing.WriteFault.{WriteFault}
use denote.Ref.{Bor}

-- all of the text went out, and no write failed
abbrev pub WrittenWhole : List ℕ → SeenSink → SeenSink → Type 0
WrittenWhole text old new = Appends old.taken new.taken text × (new.faults ≡ old.faults)

-- a part of the text went out, from its beginning, and one write failed
abbrev pub CutOff : List ℕ → SeenSink → SeenSink → Type 0
CutOff text old new =
    (new.faults ≡ one_more old.faults)
    × (n : ℕ) × (n < length text) × Appends old.taken new.taken (take n text)

-- so did a part of a text behind one that went out whole
abbrev pub CutOffAfter : (before text : List ℕ) → SeenSink → SeenSink → Type 0
CutOffAfter before text old new =
    (new.faults ≡ one_more old.faults)
    × (n : ℕ) × (n < length text) × Appends old.taken new.taken (before ++ take n text)

-- what the writing of a text does
abbrev pub Wrote : List ℕ → SeenSink → SeenSink → Result Unit WriteFault → Type 0
Wrote text old new (Ok x) = WrittenWhole text old new
Wrote text old new (Err fault) = CutOff text old new

-- what one write of a text does, which leaves some of it, or fails and takes nothing
abbrev pub WroteSome : List ℕ → SeenSink → SeenSink → Result (Bor (List ℕ)) WriteFault → Type 0
WroteSome text old new (Ok rest) =
    (n : ℕ) × (0 < n) × (rest.now ≡ drop n text)
    × Appends old.taken new.taken (take n text) × (new.faults ≡ old.faults)
WroteSome text old new (Err fault) = (new.faults ≡ one_more old.faults) × Keeps old.taken new.taken
