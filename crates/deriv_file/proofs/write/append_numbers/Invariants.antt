use Rattle.std.proofs.Common.{◌≡◌, ◌++◌, take}
use Rattle.deriv_file.specs.Writing.{spaced}
use Rattle.deriv_file.proofs.write.append_numbers.Given as goal

-- the numbers so far
abbrev pub invariant-loop-number : goal.invariant-loop-number
invariant-loop-number l = l.into.items ≡ l.initial.into.items ++ spaced (take l.number-index l.numbers)
