use Rattle.std.proofs.Common.{◌≡◌, take}
use Rattle.book_writer.proofs.numbering.ids.Given as goal

abbrev pub invariant-loop-number : goal.invariant-loop-number
invariant-loop-number l = l.ids ≡ take l.number-index l.numbers
