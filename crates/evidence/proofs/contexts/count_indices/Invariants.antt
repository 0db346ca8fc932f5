use Rattle.book.specs.Shown.{book_means}
use Rattle.evidence.proofs.CountLaws.{Counted}
use Rattle.evidence.proofs.contexts.count_indices.Given as goal

abbrev pub invariant-loop-below : goal.invariant-loop-below
invariant-loop-below l = Counted (book_means l.book) l.fn.ctx.0 l.rest.0 l.count

abbrev pub decreases-loop-below : goal.decreases-loop-below
decreases-loop-below l = l.rest.0
