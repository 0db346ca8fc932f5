use Rattle.std.proofs.Common.{◌≡◌, List, ℕ, ◌++◌, length}
use Rattle.std.specs.Io.KnownBytes.{Appends}
use Rattle.dialogue.proofs.writing.write_text.Given as goal

-- the text is what went out and what is left
abbrev pub invariant-loop-rest : goal.invariant-loop-rest
invariant-loop-rest g l =
    let taken = g.O.Sink.taken in
    let faults = g.O.Sink.faults in
    (done : List ℕ) × (l.text ≡ done ++ l.rest) × Appends (taken l.fn.out) (taken l.out) done × (faults l.out ≡ faults l.fn.out)

abbrev pub decreases-loop-rest : goal.decreases-loop-rest
decreases-loop-rest g l = length l.rest
