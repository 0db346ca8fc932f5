use Rattle.std.proofs.Common.{take}
use Rattle.theory.specs.RuleNames.{kinds_of}
use Rattle.book.specs.Shown.{book_means}
use Rattle.book.specs.Fits.{AreParts}
use Rattle.book.proofs.kernel.Book.are_parts.Given as goal

-- the rows so far are parts
abbrev pub invariant-loop-at : goal.invariant-loop-at
invariant-loop-at l = AreParts (book_means l.self) (take l.at (kinds_of l.fn.rule)) (take l.at l.parts)
