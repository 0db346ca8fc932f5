use Rattle.book.specs.Shown.{book_concludes, AddsRows}
use Rattle.book.specs.Fits.{rule_in}
use Rattle.book.proofs.PremiseLaws.{FirstHold}
use Rattle.book.proofs.kernel.Book.failing_premise.Given as goal

-- the premises so far hold
abbrev pub invariant-loop-at : goal.invariant-loop-at
invariant-loop-at l =
    AddsRows l.fn.self l.self
    × FirstHold (book_concludes l.fn.self) l.step.premises (rule_in l.fn.self l.step) l.at
