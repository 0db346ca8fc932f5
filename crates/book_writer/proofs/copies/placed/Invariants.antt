use Rattle.std.proofs.Common.{◌≡◌, map, take}
use Rattle.std.specs.Prelude.{slice_index_or}
use Rattle.book_writer.proofs.copies.placed.Given as goal

abbrev pub invariant-loop-row : goal.invariant-loop-row
invariant-loop-row l = l.words ≡ map (λ k. slice_index_or l.places k 0) (take l.row-index l.rows)
