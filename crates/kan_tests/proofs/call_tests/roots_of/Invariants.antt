use Rattle.std.proofs.Common.{◌≡◌, ◌∷◌, take, map}
use Rattle.kan_tests.proofs.call_tests.roots_of.Given as goal

abbrev pub invariant-loop-number : goal.invariant-loop-number
invariant-loop-number l = map (λ node. node.0) l.nodes.items ≡ l.derived.typing.0 ∷ take l.number-index l.derived.equations
