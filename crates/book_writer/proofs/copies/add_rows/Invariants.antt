use Rattle.std.proofs.Common.{◌≡◌, length}
use Rattle.book.specs.Shown.{book_means}
use Rattle.book_writer.specs.Means.{ArePlaced}
use Rattle.book_writer.specs.Needed.{among}
use Rattle.book_writer.proofs.copies.add_rows.Given as goal

abbrev pub invariant-loop-row : goal.invariant-loop-row
invariant-loop-row l =
    ArePlaced (among l.needed (book_means l.book)) l.lines l.places.items × (length l.places.items ≡ l.row)
