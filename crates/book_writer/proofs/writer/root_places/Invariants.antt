use Rattle.std.proofs.Common.{◌≡◌, take, map}
use Rattle.std.specs.Prelude.{slice_index_or}
use Rattle.book_writer.proofs.writer.root_places.Given as goal

abbrev pub invariant-loop-root : goal.invariant-loop-root
invariant-loop-root l = l.found.items ≡ map (λ root. slice_index_or l.places root.0 0) (take l.root-index l.roots)
