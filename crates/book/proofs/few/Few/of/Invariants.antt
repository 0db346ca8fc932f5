use Rattle.std.proofs.Common.{◌≡◌, take}
use Rattle.book.proofs.few.Few.of.Given as goal

abbrev pub invariant-loop-number : goal.invariant-loop-number
invariant-loop-number l = l.few ≡ take l.number-index l.numbers
