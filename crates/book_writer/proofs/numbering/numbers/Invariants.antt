use Rattle.book_writer.proofs.NumberLaws.{Counted}
use Rattle.book_writer.proofs.numbering.numbers.Given as goal

abbrev pub invariant-loop-marked : goal.invariant-loop-marked
invariant-loop-marked l = Counted l.marks l.marked-index l.of.items l.count
