use Rattle.std.proofs.Common.{rules}
use Rattle.book.proofs.kernel.Book.new.Goals as goal

pub invariant_of-result : goal.invariant_of-result
invariant_of-result c = record { right = search rules; keeps = c.new-4.ensures _ _ }
