use Rattle.side_conditions.specs.Contexts.{context_of}
use Rattle.book.specs.Shown.{Extends, book_means}
use Rattle.evidence.proofs.FixedLaws.{FixesBelow}
use Rattle.evidence.proofs.contexts.fixed_names.Given as goal

abbrev pub invariant-loop-index : goal.invariant-loop-index
invariant-loop-index l = Extends l.fn.book l.book × FixesBelow (context_of (book_means l.fn.book l.ctx.0)) l.index l.names.items
