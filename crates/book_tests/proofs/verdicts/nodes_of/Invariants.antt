use Rattle.std.proofs.Common.{◌≡◌, take, map}
use Rattle.book_tests.proofs.verdicts.nodes_of.Given as goal

abbrev pub invariant-loop-number : goal.invariant-loop-number
invariant-loop-number l = map (λ node. node.0) l.nodes.items ≡ take l.number-index l.numbers
