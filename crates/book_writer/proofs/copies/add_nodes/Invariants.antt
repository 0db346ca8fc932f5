use Rattle.std.proofs.Common.{◌≡◌, length}
use Rattle.book.specs.Shown.{book_means, book_concludes}
use Rattle.book_writer.specs.Means.{ArePlaced, AreConcluded}
use Rattle.book_writer.specs.Needed.{among}
use Rattle.book_writer.proofs.copies.add_nodes.Given as goal

abbrev pub invariant-loop-node : goal.invariant-loop-node
invariant-loop-node l =
    ArePlaced (among l.needed.rows.items (book_means l.book)) l.lines l.places × AreConcluded (among l.needed.nodes.items (book_concludes l.book)) l.lines l.nodes.items ×
    (length l.nodes.items ≡ l.node)
