use Rattle.std.proofs.Common.{◌≡◌, ◌++◌, take}
use Rattle.recipe_runner.proofs.numbers.Numbers.append.Given as goal

abbrev pub invariant-loop-number : goal.invariant-loop-number
invariant-loop-number l = l.self ≡ l.fn.self ++ take l.number-index l.numbers
