use Rattle.std.proofs.Common.{◌≡◌, ◌++◌, take}
use Rattle.kan_calls.proofs.calls.followed.Given as goal

abbrev pub invariant-loop-number : goal.invariant-loop-number
invariant-loop-number l = l.few ≡ l.fn.few ++ take l.number-index l.more
