use Rattle.deriv_file.proofs.NumberLaws.{DigitsBefore}
use Rattle.deriv_file.proofs.number.digits.Given as goal

abbrev pub invariant-loop-byte : goal.invariant-loop-byte
invariant-loop-byte l = DigitsBefore l.word l.byte-index l.value
